-- Tests one after another.
use Rattle.std.specs.Prelude.{◌≡◌, refl, Result, Ok}
use Rattle.command_checks.specs.Imports.{Tested, ◌>>=◌, arith}
use Rattle.command_checks.specs.Inner.Gives.{GivesUp}
use Rattle.command_checks.specs.declared.fault.StepFault.{StepFault}

-- a test that gives up, and what comes behind it
pub GivesUp-then : {A B : Type 0} (first : Tested A) (next : A → Tested B) (fault : StepFault) → GivesUp first fault → GivesUp (first >>= next) fault
GivesUp-then first next fault gives = grind arith

-- a test that is passed
pub goes_then : {A B E : Type 0} (first : Result A E) (next : A → Result B E) (x : A) → first ≡ Ok x → (first >>= next) ≡ next x
goes_then first next x is = rw is refl
