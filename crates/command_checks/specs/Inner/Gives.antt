-- What the answer of a test says of the outcome that the test has in the model.
use Rattle.std.specs.Prelude.{◌≡◌, Result, Ok, Err}
use Rattle.command_checks.specs.Imports.{Tested}
use Rattle.command_checks.specs.declared.fault.StepFault.{StepFault}
use Rattle.command_checks.specs.declared.fault.StepFault.TheVariants as fault

-- a test that was not passed: the outcome is this refusal, and want of memory is free
abbrev pub GivesUp : {A : Type 0} → Tested A → StepFault → Type 0
GivesUp outcome (fault.Command refusal) = outcome ≡ Err refusal
GivesUp outcome fault.NoMemory = Unit {0}
GivesUp outcome _ = ⊥

-- what a test gave, seen by `view`, is what the model's test gives
abbrev pub Gives : {A B : Type 0} → (A → B) → Result A StepFault → Tested B → Type 0
Gives view (Ok x) outcome = outcome ≡ Ok (view x)
Gives view (Err fault) outcome = GivesUp outcome fault
