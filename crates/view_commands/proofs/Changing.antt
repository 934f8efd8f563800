-- A command that is refused, and what it leaves.
use Rattle.view_commands.proofs.Imports.{◌≡◌, ℕ, ℤ, List, Option, Some, None, Result, Ok, Err, refl, Access, Table, after_log, after_stores, Tested, Done, CommandFault, GivesUp, StepFault, Changed, ChangeFault, Ends, HasRows, left_at, row_of, arith}
use Rattle.view_commands.specs.declared.change.ChangeFault.TheVariants as change

pub refused_with : (outcome : Tested Done) (left : ℕ → List (List ℤ)) (old new : Table) (fault : ChangeFault) (result : Result (Option ℤ) ChangeFault) → result ≡ Err fault →
    Ends old.fields outcome fault → HasRows old (left_at left old (row_of fault)) new → Changed outcome left old result new
refused_with outcome left old new fault result is ends rows = rw is (ends, rows)

-- where a test is not passed all rows stay
stay : (left : ℕ → List (List ℤ)) (table : Table) (at : Option ℕ) → ((row : ℕ) → left row ≡ table.rows) → left_at left table at ≡ table.rows
stay left table at each = grind arith

pub stopped : {A : Type 0} (outcome : Tested Done) (left : ℕ → List (List ℤ)) (table : Table) (first : Tested A) (fault : StepFault) (result : Result (Option ℤ) ChangeFault) →
    result ≡ Err (change.Other fault) → GivesUp first fault → ((f : CommandFault) → first ≡ Err f → outcome ≡ Err f) → ((f : CommandFault) (row : ℕ) → first ≡ Err f → left row ≡ table.rows) →
    Changed outcome left table result table
stopped outcome left table first fault result is gives onto stays = grind (arith, refused_with, stay)

-- a command said otherwise
pub changed_as : (outcome other : Tested Done) (left more : ℕ → List (List ℤ)) (old new : Table) (result : Result (Option ℤ) ChangeFault) → outcome ≡ other → ((row : ℕ) → left row ≡ more row) →
    Changed other more old result new → Changed outcome left old result new
changed_as outcome other left more old new (Ok given) same rows changed = rw same changed
changed_as outcome other left more old new (Err fault) same rows changed = (rw same changed.0, rw (left_same (row_of fault)) changed.1)
  where
    left_same : (at : Option ℕ) → left_at left old at ≡ left_at more old at
    left_same (Some row) = rows row
    left_same None = refl

-- a table that was read, and one that was stored in
pub has_rows : (old new : Table) (rows : List (List ℤ)) (log : List Access) → new ≡ after_stores old rows log → HasRows old rows new
has_rows old new rows log is = rw is refl

pub has_same : (old new : Table) (log : List Access) → new ≡ after_log old log → HasRows old old.rows new
has_same old new log is = rw is refl
