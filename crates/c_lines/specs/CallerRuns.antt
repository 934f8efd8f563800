-- One leaf of rows one after another, as numbers of the caller's type.
use Rattle.std.specs.Prelude.{◌≡◌, ◌+◌, if◌then◌else◌}
use Rattle.c_lines.specs.Imports.{ℕ, Bool, ℤ, List, length, take, Option, Some, None, Result, Ok, Err, LeafType, column_reads, run_of, run_fault, stored_count, with_run, Table, after_log, LaneFault, refused_by}
use Rattle.c_lines.specs.Answers.{Answer}
use Rattle.c_lines.specs.Told.{store_refusal}
use Rattle.c_lines.specs.Values.{is_run, read_by}
use Rattle.c_lines.specs.declared.refusal.Refusal.TheVariants.{NoPlace}

-- what `lly_get_run` and `lly_get_run_u64` answer
abbrev pub got_run : (LeafType → Bool) → ℕ → ℕ → ℕ → Table → Answer (List ℤ)
got_run reads first count leaf table = read_by reads table first count leaf (run_of leaf first count table)

-- the table after such a read
abbrev pub after_run : ℕ → ℕ → ℕ → Table → Table
after_run first count leaf table = after_log table (column_reads leaf first count)

-- the answer of a store of values in a leaf of the rows from one on
abbrev pub told_run : ℕ → ℕ → Option LaneFault → Answer (Unit {0})
told_run first leaf cause = refused_by (λ (fault : LaneFault). store_refusal (first + fault.lane) leaf fault.fault) cause

-- what it answers and leaves
pub record IsSet (first leaf : ℕ) (values : List ℤ) (old new : Table) (answer : Answer (Unit {0})) : Type 0 where
  pub told : answer ≡ told_run first leaf (run_fault leaf values old)
  pub left : new ≡ with_run leaf first values (stored_count (length values) (run_fault leaf values old)) old

-- numbers from the first of some values on are stored, so many, or those before the first that is not taken, whose fault is told
abbrev pub IsFrontStored : ℕ → ℕ → List ℤ → Table → Table → Result ℕ LaneFault → Type 0
IsFrontStored leaf first values old new (Ok count) = (run_fault leaf (take count values) old ≡ None) × (new ≡ with_run leaf first values count old)
IsFrontStored leaf first values old new (Err fault) = (run_fault leaf values old ≡ Some fault) × (new ≡ with_run leaf first values fault.lane old)

-- what `lly_set_run` and `lly_set_run_u64` answer, and what they leave
abbrev pub was_set_run : ℕ → ℕ → List ℤ → Table → Answer (Unit {0})
was_set_run first leaf values table = if is_run table first (length values) leaf then told_run first leaf (run_fault leaf values table) else Err NoPlace

abbrev pub after_set_run : ℕ → ℕ → List ℤ → Table → Table
after_set_run first leaf values table = if is_run table first (length values) leaf
    then with_run leaf first values (stored_count (length values) (run_fault leaf values table)) table else table
