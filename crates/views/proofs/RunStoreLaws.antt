-- A run that is read or stored row by row.
use Rattle.views.proofs.Imports.{◌≡◌, ℕ, ◌+◌, ◌<◌, List, length, map, drop, get_or, set, ℤ, pos, Some, None, sym, arith, cases_eq, length-set, get_or-set_same, get_or-set_other, take-map, drop-length, entry, low_64, column_reads, first_lane_fault, run_fault, stored_count, with_run, Table, answer_of, kept_of, after_log, after_read, after_log-none, LaneFault}
use Rattle.views.proofs.ColumnLaws.{column_read_more}
use Rattle.views.proofs.StoredLaws.{HasStored}

-- the values of the first so many rows of a run are read
pub record HasRun (leaf first done : ℕ) (old table : Table) (before values : List ℤ) : Type 0 where
  pub count : length values ≡ length before
  pub each : (k : ℕ) → k < done → get_or values k (pos 0) ≡ low_64 (entry old.rows (first + k) leaf)
  pub log : table ≡ after_log old (column_reads leaf first done)

pub no_row : (leaf first : ℕ) (old : Table) (before values : List ℤ) → length values ≡ length before → HasRun leaf first 0 old old before values
no_row leaf first old before values count = record { count = count; each = λ k l. absurd (omega arith); log = sym (after_log-none old) }

pub row_more : (leaf first done row : ℕ) (old table new : Table) (before values : List ℤ) (value : ℤ) → HasRun leaf first done old table before values → row ≡ first + done → done < length before
    → value ≡ low_64 (entry table.rows row leaf) → new ≡ after_read table row leaf → HasRun leaf first (done + 1) old new before (set values done value)
row_more leaf first done row old table new before values value have at inside is read = grind (arith, length-set, get_or-set_same, get_or-set_other, cases_eq, column_read_more)

-- ---- values that are stored

-- the first so many of a run
pub run_stored : (leaf first lane : ℕ) (old table : Table) (values : List ℤ) → HasStored leaf first lane old table (map (kept_of old leaf) values) → table ≡ with_run leaf first values lane old
run_stored leaf first lane old table values stored = grind (arith, take-map)

-- a run without a fault, of which all values are stored
pub whole_run : (leaf first lane : ℕ) (old table : Table) (values : List ℤ) → run_fault leaf values old ≡ None → lane ≡ length values → table ≡ with_run leaf first values lane old
    → table ≡ with_run leaf first values (stored_count (length values) (run_fault leaf values old)) old
whole_run leaf first lane old table values none end stored = grind arith

-- no fault behind the last
pub no_fault : (leaf lane : ℕ) (old : Table) (values : List ℤ) → run_fault leaf values old ≡ first_lane_fault (answer_of old) leaf lane (drop lane values) → lane ≡ length values
    → run_fault leaf values old ≡ None
no_fault leaf lane old values is end = grind (arith, drop-length)

-- a run that ends at a fault
pub stopped_run : (leaf first : ℕ) (old table : Table) (values : List ℤ) (fault : LaneFault) → run_fault leaf values old ≡ Some fault → table ≡ with_run leaf first values fault.lane old
    → table ≡ with_run leaf first values (stored_count (length values) (run_fault leaf values old)) old
stopped_run leaf first old table values fault is stored = grind arith
