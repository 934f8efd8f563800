-- The run over the lines of a script, from a world.
use Rattle.std.specs.Prelude.{◌+◌, ◌==◌, ◌∷◌, ◌++◌}
use Rattle.worlds.specs.Imports.{ℕ, Bool, false, List, [], Option, None, Some, Ok, Err}
use Rattle.worlds.specs.Worlds.{World}
use Rattle.worlds.specs.Outcomes.{Outcome, Fault, Unread as NotRead, Left}
use Rattle.worlds.specs.FaultTexts.{fault_text, unread_text}
use Rattle.worlds.specs.Outcome.{Output, Finished, Faulted, Unread}

-- a text before all others
abbrev pub prepend : List ℕ → Output → Output
prepend text output = record { bytes = text ++ output.bytes; end = output.end }

-- whether reading fails at this line
abbrev pub fails_at : Option ℕ → ℕ → Bool
fails_at None line = false
fails_at (Some other) line = other == line

-- what becomes of a run after the outcome of a line
abbrev pub after : ℕ → Outcome Left → (World → Output) → Output
after line (Ok left) rest = prepend left.text (rest left.held)
after line (Err (Fault fault)) rest = record { bytes = fault_text line fault; end = Faulted }
after line (Err (NotRead name)) rest = record { bytes = unread_text line name; end = Unread line }

-- the lines in order, the first of which has this number
abbrev pub run_from : (World → List ℕ → Bool → Outcome Left) → ℕ → World → List (List ℕ) → Option ℕ → Output
run_from outcome number world [] unread = record { bytes = []; end = Finished }
run_from outcome number world (line ∷ lines) unread =
    after number (outcome world line (fails_at unread number)) (λ next. run_from outcome (number + 1) next lines unread)
