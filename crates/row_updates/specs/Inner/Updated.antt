-- How far an update and a count have come, and how they end.
use Rattle.std.specs.Prelude.{ℕ, ◌≡◌, ◌+◌, ◌<◌, ◌≤◌, Bool, true, ℤ, pos, List, length, take, drop, count_by, slice_index_or, Option, Some, None, Result, Ok, Err}
use Rattle.row_updates.specs.Imports.{Bor, range_with_len, Term, is_true, index_at, Table, answer_of, kept_of, after_log, after_stores}
use Rattle.row_updates.specs.declared.fault.UpdateFault.{UpdateFault}
use Rattle.row_updates.specs.Rows.{Setting, each, passes, updated_row, updated_of, counted}
use Rattle.row_updates.specs.Logs.{update_log, count_log}
use Rattle.row_updates.specs.Inner.ValueRuns.{row_of}

-- the first so many rows are updated, and the others as they were
pub record AreUpdated (old : Table) (filter : Option (Term ℕ)) (sets : List Setting) (view : Table) (row : ℕ) : Type 0 where
  pub same : view ≡ after_stores old view.rows (update_log old filter sets row)
  pub count : length view.rows ≡ length old.rows
  pub front : updated_of old filter sets row ≡ Ok (take row view.rows)
  pub back : drop row view.rows ≡ drop row old.rows

-- a fault ends the update, before which the rows before it were updated
pub record IsStopped (old : Table) (filter : Option (Term ℕ)) (sets : List Setting) (view : Table) (fault : UpdateFault) : Type 0 where
  pub refused : updated_of old filter sets (length old.rows) ≡ Err fault
  pub before : updated_of old filter sets fault.row ≡ Ok (take fault.row view.rows)
  pub behind : drop fault.row view.rows ≡ drop fault.row old.rows
  pub so_far : view ≡ after_stores old view.rows (update_log old filter sets (fault.row + 1))

-- a table with as many rows of other values
pub record IsStill (table after : Table) : Type 0 where
  pub same : after ≡ record table { rows = after.rows }
  pub count : length after.rows ≡ length table.rows

-- so many rows from one on are updated, in a table that counts nothing
pub record IsRunUpdated (table : Table) (filter : Option (Term ℕ)) (sets : List Setting) (first many : ℕ) (after : Table) : Type 0 where
  pub still : IsStill table after
  pub front : take first after.rows ≡ take first table.rows
  pub back : drop (first + many) after.rows ≡ drop (first + many) table.rows
  pub each : (k : ℕ) → k < many
      → updated_row (answer_of table) (kept_of table) filter sets (first + k) (row_of table (first + k)) (index_at table.extents (first + k)) ≡ Ok (row_of after (first + k))

-- whether a row of a run passes, by numbers of which those of rows that do not are 0; each does where there are none
abbrev pub lane_test : Option (Bor (List ℤ)) → ℕ → Bool
lane_test None k = true
lane_test (Some mask) k = is_true (slice_index_or mask.now k (pos 0))

-- so it is for a filter
abbrev pub AreTested : Table → Option (Term ℕ) → ℕ → ℕ → (ℕ → Bool) → Type 0
AreTested table filter first count test = (k : ℕ) → k < count → passes (first + k) (row_of table (first + k)) (index_at table.extents (first + k)) filter ≡ Ok (test k)

-- so many rows pass of the first ones
pub record AreCounted (step : ℕ → Result Bool UpdateFault) (row count : ℕ) : Type 0 where
  pub few : count ≤ row
  pub tests : List Bool
  pub gives : each step (range_with_len 0 row) ≡ Ok tests
  pub counts : count ≡ count_by (λ t. t) tests

-- the test of a row of a table
abbrev pub row_test : Table → Term ℕ → ℕ → Result Bool UpdateFault
row_test table filter number = passes number (row_of table number) (index_at table.extents number) (Some filter)

-- the same of a view whose accesses are counted, and a fault that ends the count
pub record IsCounted (old : Table) (filter : Term ℕ) (view : Table) (row count : ℕ) : Type 0 where
  pub same : view ≡ after_log old (count_log filter old.extents old.rows row)
  pub counted : AreCounted (row_test old filter) row count

pub record IsCountStopped (old : Table) (filter : Term ℕ) (view : Table) (fault : UpdateFault) : Type 0 where
  pub value : counted filter old.extents old.rows ≡ Err fault
  pub so_far : view ≡ after_log old (count_log filter old.extents old.rows (fault.row + 1))
