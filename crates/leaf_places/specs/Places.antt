-- Where the numbers of a leaf lie, as callers are told it who read them with no call.
use Rattle.std.specs.Prelude.{ℕ, ℤ, ◌≡◌, ◌*◌, ◌<◌, false, List, [], length, slice_index_or}
use Rattle.extents.specs.Indices.{indices}
use Rattle.record_dim.specs.Prelude.{is_signed}
use Rattle.places.specs.Prelude.{number, decoded, entry, Bit, owner_at}
use Rattle.blobs.specs.Bits.{bit_of, bits_of}
use Rattle.piece_bits.specs.Prelude.{hold_at}
use Rattle.map_any.specs.Counters.{is_counted}
use Rattle.views.specs.Prelude.{Table, IsTable, blob_bits_of, leaf_count_of, leaf_type_of, owners_of, table_holds}
use Rattle.leaf_places.specs.Spots.{bit_by, first_bit, IsForm}
use Rattle.leaf_places.specs.declared.told.Places.{Places}

-- the number that some bytes say in a row
abbrev pub number_in : Places → List ℕ → ℕ → ℤ
number_in places bytes row =
    decoded places.is_signed places.width (number (λ k. bit_of bytes (bit_by places.is_turned (first_bit places row) places.width k)) places.width)

-- wherever the bits of some bytes are those of its blob, they say the numbers of a leaf, also once the rows are others
abbrev pub SaysNumbers : ℕ → Table → Places → Type 0
SaysNumbers leaf table places =
    (rows : List (List ℤ)) (bytes : List ℕ) → let now : Table = record table { rows = rows } in IsTable now → bits_of bytes ≡ blob_bits_of now places.blob
    → (row : ℕ) → row < length rows → number_in places bytes row ≡ entry rows row leaf

-- places say where each bit of a leaf of a table lies in each row, and how many bytes the blob has
pub record ArePlacesOf (leaf : ℕ) (table : Table) (places : Places) : Type 0 where
  pub leaf_in : leaf < leaf_count_of table
  pub blob_in : places.blob < length (owners_of table)
  pub bytes : 8 * places.bytes ≡ length (slice_index_or (owners_of table) places.blob [])
  pub groups : 0 < places.lanes
  pub signed : places.is_signed ≡ is_signed (leaf_type_of table leaf)
  pub wide : places.width ≡ (hold_at (table_holds table) leaf).width
  pub form : IsForm places.in_bits places.is_turned places.width
  pub owned : (row k : ℕ) → row < length (indices table.extents) → k < places.width
      → owner_at (owners_of table) places.blob (bit_by places.is_turned (first_bit places row) places.width k) ≡ Bit row leaf k
  pub says : SaysNumbers leaf table places

-- a read of a leaf is a read of what is stored: no access is counted, and it is stored in the sign of its type
pub record IsDirect (leaf : ℕ) (table : Table) : Type 0 where
  pub uncounted : is_counted table.mapping ≡ false
  pub sign : (hold_at (table_holds table) leaf).signed ≡ is_signed (leaf_type_of table leaf)

-- places have to be told: there are some of groups of rows
pub record MustTell (leaf : ℕ) (table : Table) : Type 0 where
  pub direct : IsDirect leaf table
  pub some : 0 < length table.rows
  pub places : Places
  pub grouped : places.in_digits ≡ false
  pub are : ArePlacesOf leaf table places
