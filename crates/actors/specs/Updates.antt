-- What the plain update gives and reads.
use Rattle.std.specs.Prelude.{ℕ, ◌≡◌, ◌+◌, ◌≤◌, ℤ, List, length, Option, Result, Ok, Err}
use Rattle.actors.specs.Imports.{Term, Table, after_log, reads_in, UpdateFault, update_log, Setting}
use Rattle.actors.specs.declared.fault.ActorFault.{ActorFault}
use Rattle.actors.specs.declared.fault.ActorFault.TheVariants.{Update, NoMemory}

-- it meets no fault
abbrev pub IsUpdated : Result (List (List ℤ)) UpdateFault → Type 0
IsUpdated updated = (rows : List (List ℤ)) × (updated ≡ Ok rows)

abbrev pub IsUpdatedRow : Result (List ℤ) UpdateFault → Type 0
IsUpdatedRow updated = (row : List ℤ) × (updated ≡ Ok row)

-- why there is no run: this is the fault that it meets, or memory ran out
abbrev pub IsMet : Result (List (List ℤ)) UpdateFault → ActorFault → Type 0
IsMet updated (Update fault) = updated ≡ Err fault
IsMet updated NoMemory = Unit {0}

-- what is counted where there is no run: the reads of the plain update up to and with the row of its fault, or, where memory ran out, those of
-- some of the first rows
abbrev pub HasRead : Table → Option (Term ℕ) → List Setting → Table → ActorFault → Type 0
HasRead old filter sets view (Update fault) = view ≡ after_log old (reads_in (update_log old filter sets (fault.row + 1)))
HasRead old filter sets view NoMemory = (count : ℕ) × (count ≤ length old.rows) × (view ≡ after_log old (reads_in (update_log old filter sets count)))
