-- One value of a table, as a number of the caller's type.
use Rattle.std.specs.Prelude.{◌+◌, ◌&&◌, if◌then◌else◌}
use Rattle.c_lines.specs.Imports.{ℕ, Bool, true, false, not, ℤ, length, nat_lt, nat_le, Ok, Err, LeafType, U64, is_signed, entry, without_number, Table, leaf_count_of, leaf_type_of, answer_of, ok_or}
use Rattle.c_lines.specs.Answers.{Answer}
use Rattle.c_lines.specs.Told.{store_refusal}
use Rattle.c_lines.specs.declared.refusal.Refusal.TheVariants.{NoPlace, BadType}

-- so many rows from one on, and a leaf, are those of a table
abbrev pub is_run : Table → ℕ → ℕ → ℕ → Bool
is_run table first count leaf = nat_le (first + count) (length table.rows) && nat_lt leaf (leaf_count_of table)

-- whether each value of a type is one of 64 bits with a sign, and one without
abbrev pub reads_signed : LeafType → Bool
reads_signed U64 = false
reads_signed _ = true

abbrev pub reads_unsigned : LeafType → Bool
reads_unsigned kind = not (is_signed kind)

-- what is read of a leaf of a type where it is there, by a caller who takes the values of some types
abbrev pub read_if : {A : Type 0} → Bool → (LeafType → Bool) → LeafType → A → Answer A
read_if there reads kind given = if there then (if reads kind then Ok given else Err BadType) else Err NoPlace

-- what is read so of rows of a leaf
abbrev pub read_by : {A : Type 0} → (LeafType → Bool) → Table → ℕ → ℕ → ℕ → A → Answer A
read_by reads table first count leaf given = read_if (is_run table first count leaf) reads (leaf_type_of table leaf) given

-- what `lly_get` and `lly_get_u64` answer
abbrev pub got : (LeafType → Bool) → ℕ → ℕ → Table → Answer ℤ
got reads at leaf table = read_by reads table at 1 leaf (entry table.rows at leaf)

-- the answer of a store of a value in a leaf of a row
abbrev pub store_told : ℕ → ℕ → ℤ → Table → Answer (Unit {0})
store_told at leaf value table = ok_or (store_refusal at leaf) (without_number (answer_of table leaf value))

-- what `lly_set` and `lly_set_u64` answer
abbrev pub was_set : ℕ → ℕ → ℤ → Table → Answer (Unit {0})
was_set at leaf value table = if is_run table at 1 leaf then store_told at leaf value table else Err NoPlace
