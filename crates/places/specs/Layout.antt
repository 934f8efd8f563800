-- What a layout is, and the layouts of the base mappings, each made by concatenation alone.
-- (LLAMA, Gruber et al. 2023, on mappings; the choices that it leaves open are this project's.)
use Rattle.std.specs.Prelude.{ℕ, ◌+◌, ◌-◌, ◌*◌, ◌/◌, ◌%◌, List, [], ◌∷◌, ◌++◌, length, map, filter, max, fold, replicate, slice_index_or, if◌then◌else◌, nat_lt, ◌==◌}
use Rattle.record_dim.specs.Std.{flat_map, range_with_len, enumerate_from}

-- who owns one bit of a blob: nobody, or bit `bit` of cell `cell` in slot `slot`
pub data Owner : Type 0 where
  Pad : Owner
  Bit : (slot cell bit : ℕ) → Owner

-- a layout is a list of blobs, each a list of owners, one per bit; bit k of a blob is bit k % 8 of its byte k / 8
-- the owner of a place; outside of the blobs nobody
abbrev pub owner_at : List (List Owner) → ℕ → ℕ → Owner
owner_at layout blob place = slice_index_or (slice_index_or layout blob []) place Pad

-- a cell is written as its number and its width in bits
abbrev pub cells_of : List ℕ → List (ℕ × ℕ)
cells_of widths = enumerate_from 0 widths

-- all bits of one cell in one slot, least significant first
abbrev pub field : ℕ → ℕ × ℕ → List Owner
field slot cell = map (Bit slot cell.0) (range_with_len 0 cell.1)

-- the cells of one slot, one after another
abbrev pub fields : ℕ → List (ℕ × ℕ) → List Owner
fields slot cells = flat_map (field slot) cells

-- one cell in every slot, one after another
abbrev pub array : ℕ → ℕ × ℕ → List Owner
array slots cell = flat_map (λ slot. field slot cell) (range_with_len 0 slots)

-- pads up to the next multiple of `align` bits from the list's beginning
abbrev pub padded_to : ℕ → List Owner → List Owner
padded_to align owners = owners ++ replicate ((align - length owners % align) % align) Pad

-- the greatest width
abbrev pub greatest : List (ℕ × ℕ) → ℕ
greatest cells = fold max 0 (map (λ cell. cell.1) cells)

-- array of structs, packed: slot after slot, cell after cell
abbrev pub packed_aos : ℕ → List ℕ → List (List Owner)
packed_aos slots widths = flat_map (λ slot. fields slot (cells_of widths)) (range_with_len 0 slots) ∷ []

-- the cells of one slot behind `front`, each at the next multiple of its own width
abbrev pub aligned_fields : ℕ → List Owner → List (ℕ × ℕ) → List Owner
aligned_fields slot front [] = front
aligned_fields slot front (cell ∷ cells) = aligned_fields slot (padded_to cell.1 front ++ field slot cell) cells

-- the part of one slot, padded to a multiple of its greatest width
abbrev pub aligned_part : List (ℕ × ℕ) → ℕ → List Owner
aligned_part cells slot = padded_to (greatest cells) (aligned_fields slot [] cells)

-- array of structs, aligned
abbrev pub aligned_aos : ℕ → List ℕ → List (List Owner)
aligned_aos slots widths = flat_map (aligned_part (cells_of widths)) (range_with_len 0 slots) ∷ []

-- the cells by falling width, ties in their order; whole-byte cells have one of these four widths
abbrev pub falling : List (ℕ × ℕ) → List (ℕ × ℕ)
falling cells = flat_map (λ width. filter (λ cell. cell.1 == width) cells) (64 ∷ 32 ∷ 16 ∷ 8 ∷ [])

-- array of structs, aligned with the least padding: the cells by falling width
abbrev pub min_aos : ℕ → List ℕ → List (List Owner)
min_aos slots widths = flat_map (aligned_part (falling (cells_of widths))) (range_with_len 0 slots) ∷ []

-- struct of arrays in one blob, no gaps
abbrev pub single_soa : ℕ → List ℕ → List (List Owner)
single_soa slots widths = flat_map (array slots) (cells_of widths) ∷ []

-- the arrays behind `front`, each at the next multiple of its cell's width
abbrev pub aligned_arrays : ℕ → List Owner → List (ℕ × ℕ) → List Owner
aligned_arrays slots front [] = front
aligned_arrays slots front (cell ∷ cells) = aligned_arrays slots (padded_to cell.1 front ++ array slots cell) cells

-- struct of arrays in one blob, each array aligned; nothing behind the last
abbrev pub aligned_soa : ℕ → List ℕ → List (List Owner)
aligned_soa slots widths = aligned_arrays slots [] (cells_of widths) ∷ []

-- struct of arrays, a blob per cell
abbrev pub multi_soa : ℕ → List ℕ → List (List Owner)
multi_soa slots widths = map (array slots) (cells_of widths)

-- one lane of a block: the cell in this slot, or as many pads where there is no such slot
abbrev pub lane : ℕ → ℕ × ℕ → ℕ → List Owner
lane slots cell slot = if nat_lt slot slots then field slot cell else replicate cell.1 Pad

-- block `block` of `lanes` slots: cell after cell, and in a cell lane after lane
abbrev pub block_of : ℕ → ℕ → List (ℕ × ℕ) → ℕ → List Owner
block_of lanes slots cells block =
    flat_map (λ cell. flat_map (λ l. lane slots cell (block * lanes + l)) (range_with_len 0 lanes)) cells

-- array of structs of arrays: whole blocks of `lanes` slots
abbrev pub aosoa : ℕ → ℕ → List ℕ → List (List Owner)
aosoa lanes slots widths =
    flat_map (block_of lanes slots (cells_of widths)) (range_with_len 0 ((slots + (lanes - 1)) / lanes)) ∷ []

-- bit-packed array of structs, its end padded to 64 bits
abbrev pub bit_aos : ℕ → List ℕ → List (List Owner)
bit_aos slots widths = padded_to 64 (flat_map (λ slot. fields slot (cells_of widths)) (range_with_len 0 slots)) ∷ []

-- bit-packed struct of arrays, each blob's end padded to 64 bits
abbrev pub bit_soa : ℕ → List ℕ → List (List Owner)
bit_soa slots widths = map (λ cell. padded_to 64 (array slots cell)) (cells_of widths)
