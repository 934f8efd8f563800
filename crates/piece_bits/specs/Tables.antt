-- Tables of numbers, and the table that blobs hold.
use Rattle.std.specs.Prelude.{ℕ, ◌<◌, ◌≡◌, ◌*◌, Bool, false, ℤ, pos, List, [], length, map, replicate, slice_index_or, slice_set}
use Rattle.piece_bits.specs.Imports.{Owner, Pad, owner_at, table_of, Hold, bit_in}

-- a table with one entry changed
abbrev pub with_entry : List (List ℤ) → ℕ → ℕ → ℤ → List (List ℤ)
with_entry table row leaf value = slice_set table row (slice_set (slice_index_or table row []) leaf value)

-- a table of zeros
abbrev pub zeros : ℕ → ℕ → List (List ℤ)
zeros rows leaves = replicate rows (replicate leaves (pos 0))

-- a table has so many rows of so many numbers
pub record HasShape (rows leaves : ℕ) (table : List (List ℤ)) : Type 0 where
  pub row_count : length table ≡ rows
  pub leaf_count : (row : ℕ) → row < rows → length (slice_index_or table row []) ≡ leaves

-- the sign and the width of each hold
abbrev pub signs_and_widths : List Hold → List (Bool × ℕ)
signs_and_widths holds = map (λ hold. (hold.signed, hold.width)) holds

-- the hold of a cell; outside of the list one of no bits
abbrev pub hold_at : List Hold → ℕ → Hold
hold_at holds cell = slice_index_or holds cell (record { signed = false; width = 0 })

-- the table that blobs hold under a layout
abbrev pub table_in : List (List Owner) → ℕ → List Hold → List (List ℕ) → List (List ℤ)
table_in layout rows holds blobs = table_of layout rows (signs_and_widths holds) (bit_in blobs)

-- blobs have the lengths of a layout
pub record AreSized (layout : List (List Owner)) (blobs : List (List ℕ)) : Type 0 where
  pub count : length blobs ≡ length layout
  pub lengths : (b : ℕ) → b < length layout → 8 * length (slice_index_or blobs b []) ≡ length (slice_index_or layout b [])

-- the padding of a layout is 0 in blobs
pub record ArePadded (layout : List (List Owner)) (blobs : List (List ℕ)) : Type 0 where
  pub padding : (b p : ℕ) → owner_at layout b p ≡ Pad → bit_in blobs b p ≡ 0

-- blobs have the lengths of a layout, and its padding is 0 in them
pub record AreLaid (layout : List (List Owner)) (blobs : List (List ℕ)) : Type 0 where
  pub sized : AreSized layout blobs
  pub padded : ArePadded layout blobs
