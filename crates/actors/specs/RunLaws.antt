-- Runs after turns.
use Rattle.std.specs.Prelude.{◌≡◌, ℕ, List, ◌++◌}
use Rattle.actors.specs.Imports.{sym, ap, State, fresh_of, Micro, Registers, run_by-append}
use Rattle.actors.specs.ActorRuns.{Run, after_turns, job_in}

-- one schedule behind another
pub after_both : (run : Run) (first rest : List ℕ) → after_turns (after_turns run first) rest ≡ after_turns run (first ++ rest)
after_both run first rest =
    ap (λ (s : State (List (List ℕ)) Micro Registers). record run { state = s }) (sym (run_by-append (job_in run) (fresh_of run.found) first rest run.state))
