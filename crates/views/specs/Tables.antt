-- What a view is to its callers: the leaves of a record, the extents of an array, how its records lie in memory, and a table of numbers.
use Rattle.std.specs.Prelude.{ℕ, ◌≡◌, ◌<◌, ◌≤◌, ℤ, List, [], ◌∷◌, length, slice_index_or, Result}
use Rattle.views.specs.Imports.{indices, Fields, leaves, kinds_of, LeafType, Owner, image, Hold, Term, layout_by, holds_by, HasShape, hold_at, with_entry, value_bits, declared, IsSettled, StoreMode, Wrap}
use Rattle.views.specs.Stores.{Keeping, kind_at, store_answer, kept_by, AllStay}
use Rattle.views.specs.Tallies.{Access, Read, Write, Tally, tallied}
use Rattle.views.specs.declared.fault.StoreFault.{StoreFault}

-- a table of whole numbers: a row for each index inside the extents, in it a number for each leaf of the record; the mapping under
-- which it lies, no name in it; how a value is stored that does not fit; and what the mapping counts of the accesses
pub record Table : Type 0 where
  pub fields : Fields
  pub extents : List ℕ
  pub mapping : Term
  pub mode : StoreMode
  pub rows : List (List ℤ)
  pub tally : Tally

-- the types of the leaves
abbrev pub leaf_types_of : Table → List LeafType
leaf_types_of table = kinds_of table.fields

-- who owns each bit of each blob: the layout of the mapping
abbrev pub owners_of : Table → List (List Owner)
owners_of table = layout_by table.mapping table.extents table.fields

-- how each leaf is stored
abbrev pub table_holds : Table → List Hold
table_holds table = holds_by table.mapping table.fields

-- the number of leaves, and the type of one
abbrev pub leaf_count_of : Table → ℕ
leaf_count_of table = length (leaves table.fields)

abbrev pub leaf_type_of : Table → ℕ → LeafType
leaf_type_of table leaf = kind_at (leaf_types_of table) leaf

-- the answer to a store of a value in a leaf
abbrev pub answer_of : Table → ℕ → ℤ → Result ℤ StoreFault
answer_of table leaf value = store_answer table.mode (leaf_type_of table leaf) (hold_at (table_holds table) leaf) value

-- the number that a store of a value in a leaf keeps
abbrev pub kept_of : Table → Keeping
kept_of table = kept_by (answer_of table)

-- the bits of a blob: those of the image of the table
abbrev pub blob_bits_of : Table → ℕ → List ℕ
blob_bits_of table blob = slice_index_or (image (owners_of table) table.rows) blob []

-- a row for each index inside the extents, in each a number for each leaf, and each number one that a view of the mode
-- holds; a leaf is stored in a bit at least
pub record IsTable (table : Table) : Type 0 where
  pub rows : length table.rows ≡ length (indices table.extents)
  pub shape : HasShape (length table.rows) (leaf_count_of table) table.rows
  pub stays : AllStay table.mode (length table.rows) (leaf_types_of table) (table_holds table) table.rows
  pub some : (leaf : ℕ) → leaf < length (leaf_types_of table) → 1 ≤ (hold_at (table_holds table) leaf).width

-- where a table keeps the low bits of values, each leaf has room for all bits of its type: for all of its width, and for one of a `bool`
abbrev pub IsWide : Table → Type 0
IsWide table = table.mode ≡ Wrap → (leaf : ℕ) → leaf < length (leaf_types_of table) → value_bits (leaf_type_of table leaf) ≤ (hold_at (table_holds table) leaf).width

-- the table after accesses that left its rows
abbrev pub after_log : Table → List Access → Table
after_log table log = record table { tally = tallied (owners_of table) table.tally log }

-- the table after accesses that made its rows these
abbrev pub after_stores : Table → List (List ℤ) → List Access → Table
after_stores table rows log = record table { rows = rows; tally = tallied (owners_of table) table.tally log }

-- the table after a read of a leaf in a row: one more read is counted, and nothing else changed
abbrev pub after_read : Table → ℕ → ℕ → Table
after_read table row leaf = after_log table (Read row leaf ∷ [])

-- the table after a store of a value in a leaf of a row: the entry is the number that is kept, one more write is counted, and nothing else
-- changed
abbrev pub after_write : Table → ℕ → ℕ → ℤ → Table
after_write table row leaf value = after_stores table (with_entry table.rows row leaf (kept_of table leaf value)) (Write row leaf ∷ [])

-- a raw number that the blobs of a table may hold for a leaf
abbrev pub IsSettledIn : Table → ℕ → ℤ → Type 0
IsSettledIn table leaf raw = IsSettled table.mode (leaf_type_of table leaf) (hold_at (table_holds table) leaf) raw

-- the table after it was written in a row: the entry is the number that it stands for, and one more write is counted
abbrev pub after_raw : Table → ℕ → ℕ → ℤ → Table
after_raw table row leaf raw = after_stores table (with_entry table.rows row leaf (declared (leaf_type_of table leaf) raw)) (Write row leaf ∷ [])
