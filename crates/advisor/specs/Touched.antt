-- How many granules of some bytes hold a bit of some cells.
use Rattle.std.specs.Prelude.{ℕ, ◌*◌, ◌/◌, ◌==◌, Bool, false, List, [], length, take, drop, sum_by, count_by, slice_index_or}
use Rattle.advisor.specs.Imports.{list_any, range_with_len, Owner, Pad, Bit, granules_of}

-- whether an owner is a bit of a cell that passes a test
abbrev pub is_bit_in : (ℕ → Bool) → Owner → Bool
is_bit_in test Pad = false
is_bit_in test (Bit row cell bit) = test cell

-- whether a granule of a blob holds a byte that holds such a bit
abbrev pub holds_bit : (ℕ → Bool) → ℕ → List Owner → ℕ → Bool
holds_bit test granule blob at = list_any (is_bit_in test) (take (8 * granule) (drop (8 * granule * at) blob))

-- whether a granule of a blob of a layout holds a bit of a cell
abbrev pub holds_cell : List (List Owner) → ℕ → ℕ → ℕ → ℕ → Bool
holds_cell layout granule cell blob at = holds_bit (λ other. cell == other) granule (slice_index_or layout blob []) at

-- the number of such granules of a blob, and of all blobs
abbrev pub touched_blob : (ℕ → Bool) → ℕ → List Owner → ℕ
touched_blob test granule blob = count_by (holds_bit test granule blob) (range_with_len 0 (granules_of granule (length blob / 8)))

abbrev pub touched : (ℕ → Bool) → ℕ → List (List Owner) → ℕ
touched test granule layout = sum_by (touched_blob test granule) layout
