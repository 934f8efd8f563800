-- The blob of all blocks: its length, and the places of a cell.
use Rattle.map_aosoa.proofs.Imports.{◌≡◌, ℕ, zero, suc, ◌+◌, ◌-◌, ◌*◌, ◌/◌, ◌%◌, ◌^◌, ◌<◌, ◌≤◌, inr, ⊎_elim, List, [], ◌∷◌, ◌++◌, map, length, sum_by, get_or, slice_index, take, refl, sym, ap, ◌∙◌, subst, arith, length-append, flat_map, range_with_len, enumerate_from, sum, cases_lt, div-add-mod', mul-le, get_or_read, get_or_append_left, get_or-append-add, sum_by-cons, Owner, Pad, Bit, owner_at, cells_of, lane, block_of, aosoa, IsLocated, widths_of, full_holds, IsTooBig, Cell, Hold, Piece, within, field_at, length-parts, slot_at, one_piece, cell_width, length-widths, LieInBlocks, block_count, lanes_of, lane_is, length-lane, in_blocks, aosoa_laws}

length-lanes : (lanes slots block c w : ℕ) → length (lanes_of lanes slots block (c, w)) ≡ lanes * w
length-lanes lanes slots block c w = length-parts (λ l. lane slots (c, w) (block * lanes + l)) w (λ l. length-lane slots c w (block * lanes + l)) 0 lanes

-- the length of the cells that are numbered from n on
cells_size : (lanes slots block n : ℕ) (widths : List ℕ) → length (flat_map (lanes_of lanes slots block) (enumerate_from n widths)) ≡ lanes * sum widths
cells_size lanes slots block n [] = omega arith
cells_size lanes slots block n (w ∷ widths) =
    let first : List Owner = lanes_of lanes slots block (n, w) in
    let rest : List Owner = flat_map (lanes_of lanes slots block) (enumerate_from (n + 1) widths) in
    let both : length (first ++ rest) ≡ length first + length rest = length-append first rest in
    let one : length first ≡ lanes * w = length-lanes lanes slots block n w in
    let others : length rest ≡ lanes * sum widths = cells_size lanes slots block (n + 1) widths in
    (omega arith) ∙ ap (λ (n : ℕ). lanes * n) (sym (sum_by-cons (λ (x : ℕ). x) w widths))

-- place j of the lanes of cell c
cells_at : (lanes slots block n : ℕ) (widths : List ℕ) (c j : ℕ) → c < length widths → j < lanes * slice_index widths c
    → get_or (flat_map (lanes_of lanes slots block) (enumerate_from n widths)) (lanes * sum (take c widths) + j) Pad
    ≡ get_or (lanes_of lanes slots block (n + c, slice_index widths c)) j Pad
cells_at lanes slots block n [] c j inside low = absurd (omega arith)
cells_at lanes slots block n (w ∷ widths) zero j inside low = grind (arith, flat_map, enumerate_from, length-lanes, get_or, get_or_append_left)
cells_at lanes slots block n (w ∷ widths) (suc c) j inside low =
    let one : length (lanes_of lanes slots block (n, w)) ≡ lanes * w = length-lanes lanes slots block n w in
    let all : sum (w ∷ take c widths) ≡ w + sum (take c widths) = sum_by-cons (λ (x : ℕ). x) w (take c widths) in
    let whole : lanes * sum (w ∷ take c widths) ≡ lanes * (w + sum (take c widths)) = ap (λ (s : ℕ). lanes * s) all in
    grind (arith, get_or, get_or-append-add, slice_index, (cells_at lanes slots block (n + 1) widths c j (omega arith) low))

-- bit k of a lane that has a slot
lane_at : (lanes slots block c w l k : ℕ) → l < lanes → k < w → block * lanes + l < slots
    → get_or (lanes_of lanes slots block (c, w)) (l * w + k) Pad ≡ Bit (block * lanes + l) c k
lane_at lanes slots block c w l k lane_in bit_in slot_in = grind (arith, slot_at, length-lane, get_or, lane_is, field_at)

abbrev blob_of : ℕ → ℕ → List ℕ → List Owner
blob_of lanes slots widths = flat_map (block_of lanes slots (cells_of widths)) (range_with_len 0 (block_count lanes slots))

block_size : (lanes slots : ℕ) (widths offsets : List ℕ) (stride : ℕ) → LieInBlocks lanes widths offsets stride
    → (block : ℕ) → length (block_of lanes slots (cells_of widths) block) ≡ stride
block_size lanes slots widths offsets stride h block = cells_size lanes slots block 0 widths ∙ sym h.ends

-- with no slot there is no block
no_blocks : (lanes slots : ℕ) → 0 < lanes → slots ≤ 0 → block_count lanes slots ≡ 0
no_blocks lanes slots some none = grind (arith, div-add-mod', ⊎_elim, mul-le, cases_lt)

-- the length of the blob in bits
pub blob_size : (lanes slots : ℕ) (widths offsets : List ℕ) (stride : ℕ) → 0 < lanes → (0 < slots → LieInBlocks lanes widths offsets stride)
    → length (blob_of lanes slots widths) ≡ block_count lanes slots * stride
blob_size lanes slots widths offsets stride some h = grind (arith, ⊎_elim, length-parts, block_size, no_blocks, flat_map, range_with_len, cases_lt)

pub layout_size : (lanes slots : ℕ) (widths offsets : List ℕ) (stride : ℕ) → 0 < lanes → (0 < slots → LieInBlocks lanes widths offsets stride)
    → sum_by length (aosoa lanes slots widths) ≡ block_count lanes slots * stride
layout_size lanes slots widths offsets stride some h =
    let blob : List Owner = blob_of lanes slots widths in
    (omega arith) ∙ blob_size lanes slots widths offsets stride some h

-- the length of the one blob in bytes
pub blob_bytes_is : (lanes slots : ℕ) (cells : List Cell) (offsets : List ℕ) (stride blob : ℕ) → 0 < lanes
    → (0 < slots → LieInBlocks lanes (widths_of cells) offsets stride) → blob < length (aosoa lanes slots (widths_of cells))
    → 8 * (block_count lanes slots * stride / 8) ≡ length (get_or (aosoa lanes slots (widths_of cells)) blob [])
blob_bytes_is lanes slots cells offsets stride blob some h inside =
    let layout : List (List Owner) = aosoa lanes slots (widths_of cells) in
    let first : blob ≡ 0 = omega arith in
    let here : length (get_or layout blob []) ≡ length (blob_of lanes slots (widths_of cells)) = ap (λ (b : ℕ). length (get_or layout b [])) first in
    let size : length (blob_of lanes slots (widths_of cells)) ≡ block_count lanes slots * stride = blob_size lanes slots (widths_of cells) offsets stride some h in
    let whole : length (get_or layout blob []) % 8 ≡ 0 = (aosoa_laws lanes slots cells some).whole_bytes blob [] inside in
    omega arith

-- where a cell of a slot begins
abbrev pub begin_of : ℕ → List ℕ → List ℕ → ℕ → ℕ → ℕ → ℕ
begin_of lanes widths offsets stride slot cell = slot / lanes * stride + slice_index offsets cell + slot % lanes * slice_index widths cell

-- the places of a cell's bits
pub cell_at : (lanes slots : ℕ) (widths offsets : List ℕ) (stride slot cell bit : ℕ) → 0 < lanes → LieInBlocks lanes widths offsets stride
    → slot < slots → cell < length widths → bit < slice_index widths cell
    → owner_at (aosoa lanes slots widths) 0 (begin_of lanes widths offsets stride slot cell + bit) ≡ Bit slot cell bit
cell_at lanes slots widths offsets stride slot cell bit some h slot_in cell_in bit_in =
    let block : ℕ = slot / lanes in
    let l : ℕ = slot % lanes in
    let w : ℕ = slice_index widths cell in
    let part : List Owner = block_of lanes slots (cells_of widths) block in
    let lane_in : l < lanes = omega arith in
    let at : get_or part (lanes * sum (take cell widths) + (l * w + bit)) Pad ≡ Bit slot cell bit = grind (arith, cells_at, get_or, lane_at) in
    let low : lanes * sum (take cell widths) + (l * w + bit) < length part = within part (lanes * sum (take cell widths) + (l * w + bit)) slot cell bit at in
    let size : length part ≡ stride = block_size lanes slots widths offsets stride h block in
    ap (λ (p : ℕ). get_or (blob_of lanes slots widths) p Pad) (omega arith)
    ∙ slot_at Pad (block_of lanes slots (cells_of widths)) stride (block_size lanes slots widths offsets stride h) (block_count lanes slots) block
    (lanes * sum (take cell widths) + (l * w + bit)) (in_blocks lanes slots slot some slot_in) (omega arith)
    ∙ at

-- a cell ends within the blob
pub cell_end : (lanes slots : ℕ) (widths offsets : List ℕ) (stride slot cell : ℕ) → 0 < lanes → LieInBlocks lanes widths offsets stride
    → slot < slots → cell < length widths → 1 ≤ slice_index widths cell
    → begin_of lanes widths offsets stride slot cell + slice_index widths cell ≤ block_count lanes slots * stride
cell_end lanes slots widths offsets stride slot cell some h slot_in cell_in full =
    let last : ℕ = slice_index widths cell - 1 in
    let begin : ℕ = begin_of lanes widths offsets stride slot cell in
    let here : get_or (blob_of lanes slots widths) (begin + last) Pad ≡ Bit slot cell last =
    cell_at lanes slots widths offsets stride slot cell last some h slot_in cell_in (omega arith) in
    let low : begin + last < length (blob_of lanes slots widths) = within (blob_of lanes slots widths) (begin + last) slot cell last here in
    let size : length (blob_of lanes slots widths) ≡ block_count lanes slots * stride = blob_size lanes slots widths offsets stride some (λ filled. h) in
    omega arith

-- an offset as the code reads it
pub offset_read : (lanes : ℕ) (cells : List Cell) (offsets : List ℕ) (stride cell offset : ℕ) → LieInBlocks lanes (widths_of cells) offsets stride
    → cell < length cells → offset ≡ get_or offsets cell offset → offset ≡ slice_index offsets cell
offset_read lanes cells offsets stride cell offset h inside read = grind (arith, length-widths, get_or_read)

-- an offset fits its type
pub offset_fits : (lanes slots : ℕ) (cells : List Cell) (offsets : List ℕ) (stride cell offset : ℕ) → 0 < lanes
    → (0 < slots → LieInBlocks lanes (widths_of cells) offsets stride) → block_count lanes slots * stride ≤ 2 ^ 31 → 0 < slots → cell < length cells
    → offset ≡ get_or offsets cell offset → offset ≤ 2 ^ 31
offset_fits lanes slots cells offsets stride cell offset some h bound filled cell_in read =
    let stored : LieInBlocks lanes (widths_of cells) offsets stride = h filled in
    let same : offset ≡ slice_index offsets cell = offset_read lanes cells offsets stride cell offset stored cell_in read in
    let width = cell_width cells cell (slice_index (widths_of cells) cell) cell_in refl in
    let end : begin_of lanes (widths_of cells) offsets stride 0 cell + slice_index (widths_of cells) cell ≤ block_count lanes slots * stride =
    cell_end lanes slots (widths_of cells) offsets stride 0 cell some stored filled width.inside width.some in
    omega arith

pub located_is : (lanes slots : ℕ) (cells : List Cell) (offsets : List ℕ) (stride slot cell offset : ℕ) (piece : Piece) → 0 < lanes
    → (0 < slots → LieInBlocks lanes (widths_of cells) offsets stride) → block_count lanes slots * stride ≤ 2 ^ 31 → slot < slots → cell < length cells
    → offset ≡ get_or offsets cell offset → piece.blob ≡ 0 → piece.bits ≡ slice_index (widths_of cells) cell
    → piece.bit ≡ slot / lanes * stride + offset + slot % lanes * piece.bits
    → IsLocated (aosoa lanes slots (widths_of cells)) slot cell (slice_index (map (λ (h : Hold). h.width) (full_holds cells)) cell) (piece ∷ [])
located_is lanes slots cells offsets stride slot cell offset piece some h bound slot_in cell_in read blob bits bit =
    let widths : List ℕ = widths_of cells in
    let layout : List (List Owner) = aosoa lanes slots widths in
    let w : ℕ = slice_index widths cell in
    let stored : LieInBlocks lanes widths offsets stride = h (omega arith) in
    let same : offset ≡ slice_index offsets cell = offset_read lanes cells offsets stride cell offset stored cell_in read in
    let width = cell_width cells cell w cell_in refl in
    let end : begin_of lanes widths offsets stride slot cell + w ≤ block_count lanes slots * stride =
    cell_end lanes slots widths offsets stride slot cell some stored slot_in width.inside width.some in
    let product : slot % lanes * piece.bits ≡ slot % lanes * w = ap (λ (n : ℕ). slot % lanes * n) bits in
    let one : IsLocated layout slot cell w (piece ∷ []) =
    one_piece layout slot cell w piece bits (omega arith) (omega arith)
    (λ k l. grind (arith, cell_at)) in
    subst (λ (n : ℕ). IsLocated layout slot cell n (piece ∷ [])) (sym width.hold) one

-- a block that is too long makes the blob too long
pub big_block : (lanes slots : ℕ) (widths : List ℕ) → 0 < lanes → 0 < slots → 2 ^ 31 < lanes * sum widths → IsTooBig slots (aosoa lanes slots widths)
big_block lanes slots widths some filled long =
    let count : 0 / lanes < block_count lanes slots = in_blocks lanes slots 0 some filled in
    let size : length (blob_of lanes slots widths) ≡ block_count lanes slots * (lanes * sum widths) =
    length-parts (block_of lanes slots (cells_of widths)) (lanes * sum widths) (λ b. cells_size lanes slots b 0 widths) 0 (block_count lanes slots) in
    let grows : 1 * (lanes * sum widths) ≤ block_count lanes slots * (lanes * sum widths) =
    mul-le 1 (lanes * sum widths) (block_count lanes slots) (lanes * sum widths) (omega arith) (omega arith) in
    inr (omega arith)

-- the limits, where each block has `stride` bits
pub big_blob : (lanes slots : ℕ) (widths offsets : List ℕ) (stride : ℕ) → 0 < lanes → LieInBlocks lanes widths offsets stride
    → 2 ^ 31 < block_count lanes slots * stride → IsTooBig slots (aosoa lanes slots widths)
big_blob lanes slots widths offsets stride some h long = grind (arith, sum_by, layout_size)

pub not_too_big : (lanes slots : ℕ) (widths offsets : List ℕ) (stride : ℕ) → 0 < lanes → (0 < slots → LieInBlocks lanes widths offsets stride)
    → slots ≤ 2 ^ 24 → block_count lanes slots * stride ≤ 2 ^ 31 → IsTooBig slots (aosoa lanes slots widths) → ⊥
not_too_big lanes slots widths offsets stride some h few small big =
    let size : sum_by length (aosoa lanes slots widths) ≡ block_count lanes slots * stride = layout_size lanes slots widths offsets stride some h in
    grind (arith, ⊎_elim)

-- no slot is not too many
pub none_fits : (lanes slots : ℕ) (widths : List ℕ) → 0 < lanes → slots ≡ 0 → IsTooBig slots (aosoa lanes slots widths) → ⊥
none_fits lanes slots widths some none = grind (arith, no_blocks, not_too_big)
