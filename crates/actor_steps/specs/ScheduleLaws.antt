-- Memory after any schedule and what it left.
use Rattle.std.specs.Prelude.{◌≡◌, ℕ, List, [], ◌∷◌, None, length, refl, ◌++◌, slice_index_or}
use Rattle.actor_steps.specs.Imports.{ap, ◌∙◌, subst, entry}
use Rattle.actor_steps.specs.Confluence.{State, turned}
use Rattle.actor_steps.specs.Micro.{Job, Micro, Registers, stored, loaded}
use Rattle.actor_steps.specs.Bytes.{IsMemory}
use Rattle.actor_steps.specs.HeldLaws.{IsHeld}
use Rattle.actor_steps.specs.RowLaws.{IsSound, IsWork, row_entries}
use Rattle.actor_steps.specs.Cuts.{AreCuts, actor_of}
use Rattle.actor_steps.specs.Shared.{shared_byte}
use Rattle.actor_steps.specs.Schedules.{idle_with, started, run_by, turns_left, finished}
use Rattle.actor_steps.specs.CutsLaws.{nothing_left}
use Rattle.actor_steps.specs.ActorLaws.{after_every_schedule, memory_after}

-- one schedule behind another
pub run_by-append : (job : Job) (fresh : Registers) (first second : List ℕ) (state : State (List (List ℕ)) Micro Registers)
    → run_by job fresh (first ++ second) state ≡ run_by job fresh second (run_by job fresh first state)
run_by-append job fresh [] second state = refl
run_by-append job fresh (a ∷ first) second state = run_by-append job fresh first second (turned (stored job) (loaded job) (idle_with fresh) a state)

-- nothing is left at the end
pub none_left : (job : Job) (fresh : Registers) (state : State (List (List ℕ)) Micro Registers) (a : ℕ)
    → (slice_index_or (finished job fresh state).actors a (idle_with fresh)).rest ≡ []
none_left job fresh state a = nothing_left (stored job) (loaded job) (idle_with fresh) refl state a

module _ (job : Job) (sound : IsSound job) (cuts : List ℕ) (memory : List (List ℕ)) (fresh : Registers) (are : AreCuts 0 cuts (length job.rows))
    (apart : shared_byte job.layout (actor_of cuts) ≡ None) (good : IsMemory job.layout memory) (work : IsWork job (entry job.rows) memory fresh) where
  start : State (List (List ℕ)) Micro Registers
  start = started job cuts (length job.rows) memory fresh

  -- where no byte is shared, memory holds what each row leaves, whatever the schedule was
  pub held_after : (schedule : List ℕ)
      → IsHeld job.layout (λ row leaf. row_entries job row (entry job.rows) row leaf) (finished job fresh (run_by job fresh schedule (started job cuts (length job.rows) memory fresh))).memory
  unfolding start
  held_after schedule =
      let middle = run_by job fresh schedule start in
      let all = schedule ++ turns_left middle in
      let same = run_by-append job fresh schedule (turns_left middle) start in
      let left : (a : ℕ) → (slice_index_or (run_by job fresh all start).actors a (idle_with fresh)).rest ≡ [] =
      λ a. ap (λ (s : State (List (List ℕ)) Micro Registers). (slice_index_or s.actors a (idle_with fresh)).rest) same ∙ none_left job fresh middle a in
      subst (λ (s : State (List (List ℕ)) Micro Registers). IsHeld job.layout (λ row leaf. row_entries job row (entry job.rows) row leaf) s.memory) same
      (after_every_schedule job sound cuts apart fresh are memory good work all left)

  -- after any schedule it is memory of the layout
  pub memory_by-any : (schedule : List ℕ) → IsMemory job.layout (run_by job fresh schedule (started job cuts (length job.rows) memory fresh)).memory
  memory_by-any schedule = memory_after job sound cuts apart fresh are memory good work schedule

  pub memory_by-end : (schedule : List ℕ) → IsMemory job.layout (finished job fresh (run_by job fresh schedule (started job cuts (length job.rows) memory fresh))).memory
  unfolding start
  memory_by-end schedule =
      let middle = run_by job fresh schedule start in
      subst (λ (s : State (List (List ℕ)) Micro Registers). IsMemory job.layout s.memory) (run_by-append job fresh schedule (turns_left middle) start)
      (memory_by-any (schedule ++ turns_left middle))
