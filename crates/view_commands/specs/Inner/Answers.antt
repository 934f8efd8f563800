-- What the answer of a command on a view says of its outcome, and of what was written.
use Rattle.std.specs.Prelude.{ℕ, ◌≡◌, List, Option, Result, Ok, Err}
use Rattle.view_commands.specs.Imports.{Table, Did, Refused, Broke, Fronted, text_of, Tested, LeftOf, StepFault}
use Rattle.command_checks.specs.declared.fault.StepFault.TheVariants as fault

-- an answer to a line that reads no file, or to a part of one
abbrev pub Answers : {S K A : Type 0} → (S → A → Type 0) → (K → Option (List ℕ)) → (K → ℕ) → K → K → Tested (LeftOf A) → Result S StepFault → Type 0
Answers Stands taken faults old new outcome (Ok next) = Did Stands taken faults old new outcome next
Answers Stands taken faults old new outcome (Err (fault.Command refusal)) = Refused taken faults old new outcome (Err refusal)
Answers Stands taken faults old new outcome (Err fault.Source) = ⊥
Answers Stands taken faults old new outcome (Err fault.Sink) = Broke taken faults old new outcome
Answers Stands taken faults old new outcome (Err fault.NoMemory) = Fronted taken faults old new (text_of outcome)

-- a table that is left, and a text
abbrev pub left_with : Table → List ℕ → LeftOf Table
left_with table text = record { held = table; text = text }

-- the table of a view is the one that is left
abbrev pub IsLeft : Table → Unit {0} → Table → Type 0
IsLeft view done table = view ≡ table
