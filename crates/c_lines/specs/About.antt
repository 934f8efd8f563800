-- What a table is: its extents, the paths and the types of its leaves, and what it counts of them.
use Rattle.std.specs.Prelude.{if◌then◌else◌}
use Rattle.c_lines.specs.Imports.{ℕ, List, [], nat_lt, slice_index_or, Option, Some, None, Ok, Err, LeafCounts, texts_of, LeafType, Table, leaf_count_of, leaf_type_of}
pub use Rattle.piece_bits.specs.Prelude.{value_bits}
use Rattle.c_lines.specs.Answers.{Answer}
use Rattle.c_lines.specs.declared.refusal.Refusal.TheVariants.{NoPlace}

-- something of a leaf, where there is the leaf
abbrev pub of_leaf : {A : Type 0} → ℕ → Table → A → Answer A
of_leaf leaf table given = if nat_lt leaf (leaf_count_of table) then Ok given else Err NoPlace

-- the extents
abbrev pub extents_told : Table → Answer (List ℕ)
extents_told table = Ok table.extents

-- the path of a leaf, as the header of `print` has it
abbrev pub path_told : ℕ → Table → Answer (List ℕ)
path_told leaf table = of_leaf leaf table (slice_index_or (texts_of table.fields) leaf [])

-- its type
abbrev pub type_told : ℕ → Table → Answer LeafType
type_told leaf table = of_leaf leaf table (leaf_type_of table leaf)

-- how often it was read and written
abbrev pub Counted : Type 0
Counted = ℕ × ℕ

abbrev pub reads_of : Counted → ℕ
reads_of counted = counted.0

abbrev pub writes_of : Counted → ℕ
writes_of counted = counted.1

abbrev pub counted_in : ℕ → Table → Option LeafCounts → Answer Counted
counted_in leaf table None = Err NoPlace
counted_in leaf table (Some counts) = of_leaf leaf table (slice_index_or counts.reads leaf 0, slice_index_or counts.writes leaf 0)

-- as `counts` shows it; a table that counts nothing has no such numbers
abbrev pub counts_told : ℕ → Table → Answer Counted
counts_told leaf table = counted_in leaf table table.tally.counts
