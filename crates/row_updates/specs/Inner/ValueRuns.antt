-- The values of an expression in consecutive rows of a table that counts nothing.
use Rattle.std.specs.Prelude.{ℕ, ◌≡◌, ◌+◌, ◌<◌, ◌≤◌, Bool, true, false, ℤ, pos, List, [], length, slice_index, slice_index_or, unsigned_abs}
use Rattle.row_updates.specs.Imports.{Bound, bound_leaves, bound_rank, Term, IsWorthIn, IsRight, Step, index_at, in_leaf, Table, leaf_count_of, after_log, Access}
use Rattle.row_updates.specs.declared.runs.Run.{Run}
use Rattle.row_updates.specs.Rows.{Setting}

-- no access changes the table
abbrev pub IsIdle : Table → Type 0
IsIdle table = (log : List Access) → after_log table log ≡ table

-- so many rows of a table from the first of a run on, at most 256, with a bound for each leaf and for each number of an index
pub record IsRunOf (table : Table) (run : Run) (count : ℕ) : Type 0 where
  pub rows : run.first + count ≤ length table.rows
  pub few : count ≤ 256
  pub leaves : length run.leaves.now ≡ leaf_count_of table
  pub places : length run.places.now ≡ length table.extents

-- a row of a table
abbrev pub row_of : Table → ℕ → List ℤ
row_of table row = slice_index_or table.rows row []

-- these are the values of a term in the rows of a run, and what it names lies near enough
abbrev pub AreWorth : Table → Run → Term ℕ → List ℤ → Type 0
AreWorth table run term values = (k : ℕ) → k < length values
    → IsWorthIn run.leaves.now run.places.now (row_of table (run.first + k)) (index_at table.extents (run.first + k)) term (slice_index_or values k (pos 0))

-- the same of the right side of a step, where it is more than a number
abbrev pub AreRights : Table → Run → Step → List ℤ → Type 0
AreRights table run step values = (k : ℕ) → k < length values
    → IsRight run.leaves.now run.places.now (row_of table (run.first + k)) (index_at table.extents (run.first + k)) step (slice_index_or values k (pos 0))

-- these are the values of a leaf in rows from one on, and lie no further from 0
pub record AreNear (table : Table) (leaf first limit : ℕ) (values : List ℤ) : Type 0 where
  pub same : (k : ℕ) → k < length values → slice_index_or values k (pos 0) ≡ in_leaf leaf (row_of table (first + k))
  pub near : (k : ℕ) → k < length values → unsigned_abs (slice_index_or values k (pos 0)) ≤ limit

-- the same of a number of the index
pub record ArePlaces (table : Table) (dimension first limit : ℕ) (values : List ℤ) : Type 0 where
  pub same : (k : ℕ) → k < length values → slice_index_or values k (pos 0) ≡ pos (slice_index (index_at table.extents (first + k)) dimension)
  pub near : (k : ℕ) → k < length values → slice_index (index_at table.extents (first + k)) dimension ≤ limit

-- what a row of a run is given for a leaf: the value of its right side where it passes, and else what stands there
abbrev pub IsGiven : Bool → Table → Run → Setting → ℕ → ℤ → Type 0
IsGiven true table run set k value = IsWorthIn run.leaves.now run.places.now (row_of table (run.first + k)) (index_at table.extents (run.first + k)) set.value value
IsGiven false table run set k value = value ≡ in_leaf set.leaf (row_of table (run.first + k))

abbrev pub AreGiven : Table → Run → Setting → (ℕ → Bool) → List ℤ → Type 0
AreGiven table run set test values = (k : ℕ) → k < length values → IsGiven (test k) table run set k (slice_index_or values k (pos 0))

-- an expression asks for as many leaves and numbers of an index
pub record IsSized (leaves places : List ℕ) (bound : Bound) : Type 0 where
  pub leaves_are : length leaves ≡ bound_leaves bound
  pub places_are : length places ≡ bound_rank bound
