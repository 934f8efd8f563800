-- A copy of one table into another.
use Rattle.std.specs.Prelude.{◌+◌, ◌++◌}
use Rattle.c_lines.specs.Imports.{ℕ, List, length, take, drop, Ok, Err, kept_rows, Access, Read, Write, all_accesses, row_accesses, Table, kept_of, leaf_count_of, after_log, after_stores, all_read, copied_by}
use Rattle.c_lines.specs.Answers.{Answer}
use Rattle.c_lines.specs.declared.refusal.Refusal.TheVariants.{Narrow}
use Rattle.c_lines.specs.Told.{done_of, in_numbers}

-- what `lly_copy` answers
abbrev pub was_copied : Table → Table → Answer (Unit {0})
was_copied source target = done_of (copied_by in_numbers source target)

-- the reads of the source up to a value that is not taken, and the target with the rows before it
abbrev pub reads_until : Table → ℕ → ℕ → List Access
reads_until source row leaf = all_accesses Read (leaf_count_of source) row ++ row_accesses Read (leaf + 1) row

abbrev pub with_front : Table → Table → ℕ → Table
with_front source target row = after_stores target (take row (kept_rows (kept_of target) source.rows) ++ drop row target.rows)
    (all_accesses Write (leaf_count_of target) row)

-- the target after a copy with this answer, and the source
abbrev pub target_after : Answer (Unit {0}) → Table → Table → Table
target_after (Ok done) source target = after_stores target (kept_rows (kept_of target) source.rows) (all_accesses Write (leaf_count_of target) (length source.rows))
target_after (Err (Narrow row leaf)) source target = with_front source target row
target_after (Err _) source target = target

abbrev pub source_after : Answer (Unit {0}) → Table → Table
source_after (Ok done) source = all_read source
source_after (Err (Narrow row leaf)) source = after_log source (reads_until source row leaf)
source_after (Err _) source = source
