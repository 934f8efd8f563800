-- How a layout is made of other layouts: owners are renamed, blobs are joined.
use Rattle.std.specs.Prelude.{ℕ, ◌+◌, ◌-◌, ◌*◌, ◌/◌, ◌%◌, Bool, not, List, ◌++◌, map, filter, Option, Some, None, slice_index_or}
use Rattle.record_dim.specs.Std.{flat_map, range_with_len, enumerate_from}
use Rattle.places.specs.Layout.{Owner, Pad, Bit, cells_of}

-- an owner under a new name; pads stay
abbrev pub renamed : (ℕ → ℕ → ℕ → Owner) → Owner → Owner
renamed name Pad = Pad
renamed name (Bit slot cell bit) = name slot cell bit

-- a layout whose owners have new names
abbrev pub relabel : (ℕ → ℕ → ℕ → Owner) → List (List Owner) → List (List Owner)
relabel name layout = map (map (renamed name)) layout

-- the bit in the row that has the slot; a slot that no row has is padding
abbrev pub bit_in_row : Option ℕ → ℕ → ℕ → Owner
bit_in_row None cell bit = Pad
bit_in_row (Some row) cell bit = Bit row cell bit

-- slots become rows
abbrev pub in_rows : (ℕ → Option ℕ) → List (List Owner) → List (List Owner)
in_rows row_at layout = relabel (λ slot cell bit. bit_in_row (row_at slot) cell bit) layout

-- cells get the numbers of `cells`
abbrev pub recelled : List ℕ → List (List Owner) → List (List Owner)
recelled cells layout = relabel (λ slot cell bit. Bit slot (slice_index_or cells cell 0) bit) layout

-- the numbers of the cells that go to the first side, and of those that do not
abbrev pub numbers_of : List Bool → List ℕ
numbers_of side = map (λ entry. entry.0) (filter (λ entry. entry.1) (enumerate_from 0 side))

-- split: the blobs of the first side, then those of the rest, under the whole's cell numbers
abbrev pub split : List Bool → List (List Owner) → List (List Owner) → List (List Owner)
split side first rest = recelled (numbers_of side) first ++ recelled (numbers_of (map not side)) rest

-- byteswap: each cell with its bytes in reverse order
abbrev pub byteswap : List ℕ → List (List Owner) → List (List Owner)
byteswap widths layout =
    relabel (λ slot cell bit. Bit slot cell (slice_index_or widths cell 0 - 8 - 8 * (bit / 8) + bit % 8)) layout

-- the bytes of the cells in order, least significant first: the cell, and which of its bytes
abbrev pub byte_cells : List ℕ → List (ℕ × ℕ)
byte_cells widths = flat_map (λ cell. map (λ byte. (cell.0, byte)) (range_with_len 0 (cell.1 / 8))) (cells_of widths)

-- bytesplit: bit k of the cell of byte j of a cell is bit 8 j + k of that cell
abbrev pub bytesplit : List ℕ → List (List Owner) → List (List Owner)
bytesplit widths layout =
    relabel (λ slot cell bit. let whole = slice_index_or (byte_cells widths) cell (0, 0) in Bit slot whole.0 (8 * whole.1 + bit)) layout
