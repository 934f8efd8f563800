-- Rows that blobs hold, and what an update asks of a row.
use Rattle.std.specs.Prelude.{ℕ, ◌≡◌, ◌<◌, Bool, true, false, ℤ, pos, List, [], ◌∷◌, length, slice_index_or, slice_set}
use Rattle.actors.specs.Imports.{declared_table, table_in, Setting, Place, Job, is_in, leaves_read, lets_through, Asks, Table, owners_of, leaf_types_of, table_holds}

-- a row of the table that blobs hold
abbrev pub row_held : Table → List (List ℕ) → ℕ → List ℤ
row_held table blobs row = slice_index_or (declared_table (leaf_types_of table) (table_in (owners_of table) (length table.rows) (table_holds table) blobs)) row []

-- there is a byte at a place
pub record HasByte (blobs : List (List ℕ)) (place : Place) : Type 0 where
  pub blob_in : place.blob < length blobs
  pub byte_in : place.byte < length (slice_index_or blobs place.blob [])

-- marks of leaves with one more of them marked
abbrev pub marked : List Bool → ℕ → List Bool
marked asked leaf = slice_set asked leaf true

-- what is known of a row of an update: which leaves it reads, and whether the filter lets it through
pub record IsRowPlanOf (job : Job) (row : ℕ) (plan : Asks) : Type 0 where
  pub asked : (leaf : ℕ) → leaf < 64 → slice_index_or plan.reads leaf false ≡ is_in (leaves_read job row) leaf
  pub through : plan.through ≡ lets_through job row

-- so of each of the first so many rows
pub record ArePlans (job : Job) (count : ℕ) (plans : List Asks) : Type 0 where
  pub long : length plans ≡ count
  pub each : (row : ℕ) (other : Asks) → row < count → IsRowPlanOf job row (slice_index_or plans row other)

-- what is asked of a row, by its number
abbrev pub asks_at : List Asks → ℕ → Asks
asks_at plans row = slice_index_or plans row (record { reads = []; through = false })

-- a row in which the leaves that are set are those of another
abbrev pub with_held : List Setting → List ℤ → List ℤ → List ℤ
with_held [] held row = row
with_held (set ∷ sets) held row = with_held sets held (slice_set row set.leaf (slice_index_or held set.leaf (pos 0)))
