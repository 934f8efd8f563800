-- The blob of all slots: its length, and the places of a cell.
use Rattle.map_aos.proofs.Imports.{◌≡◌, ℕ, zero, suc, ◌+◌, ◌-◌, ◌*◌, ◌/◌, ◌%◌, ◌^◌, ◌<◌, ◌≤◌, ⊎_elim, List, [], ◌∷◌, map, length, sum_by, get_or, slice_index, refl, sym, ap, ◌∙◌, subst, arith, length-append, flat_map, range_with_len, cases_lt, row_fits, get_or_read, length-map, Owner, Bit, owner_at, IsLocated, widths_of, full_holds, IsTooBig, Cell, Hold, Piece, within, length-parts, slot_at, one_piece, cell_width, aos_layout, LieInParts, part_of, aos_laws, layout_parts, AosForm}

abbrev blob_of : AosForm → ℕ → List ℕ → List Owner
blob_of form slots widths = flat_map (part_of form widths) (range_with_len 0 slots)

-- the length of the blob in bits
pub blob_size : (form : AosForm) (slots : ℕ) (widths offsets : List ℕ) (stride : ℕ) → (0 < slots → LieInParts form widths offsets stride)
    → length (blob_of form slots widths) ≡ slots * stride
blob_size form slots widths offsets stride h = grind (arith, ⊎_elim, length-parts, cases_lt)

pub layout_size : (form : AosForm) (slots : ℕ) (widths offsets : List ℕ) (stride : ℕ) → (0 < slots → LieInParts form widths offsets stride)
    → sum_by length (aos_layout form slots widths) ≡ slots * stride
layout_size form slots widths offsets stride h =
    let blob : List Owner = blob_of form slots widths in
    let one : sum_by length (blob ∷ []) ≡ length blob = omega arith in
    ap (λ (layout : List (List Owner)). sum_by length layout) (layout_parts form slots widths) ∙ one ∙ blob_size form slots widths offsets stride h

-- the length of the one blob in bytes
pub blob_bytes_is : (form : AosForm) (slots : ℕ) (cells : List Cell) (offsets : List ℕ) (stride blob : ℕ)
    → (0 < slots → LieInParts form (widths_of cells) offsets stride) → blob < length (aos_layout form slots (widths_of cells))
    → 8 * (slots * stride / 8) ≡ length (get_or (aos_layout form slots (widths_of cells)) blob [])
blob_bytes_is form slots cells offsets stride blob h inside =
    let widths : List ℕ = widths_of cells in
    let parts : aos_layout form slots widths ≡ blob_of form slots widths ∷ [] = layout_parts form slots widths in
    let count : length (aos_layout form slots widths) ≡ 1 = ap (λ (layout : List (List Owner)). length layout) parts in
    let first : blob ≡ 0 = omega arith in
    let here : length (get_or (aos_layout form slots widths) blob []) ≡ length (blob_of form slots widths) =
    ap (λ (b : ℕ). length (get_or (aos_layout form slots widths) b [])) first ∙ ap (λ (layout : List (List Owner)). length (get_or layout 0 [])) parts in
    let size : length (blob_of form slots widths) ≡ slots * stride = blob_size form slots widths offsets stride h in
    let whole : length (get_or (aos_layout form slots widths) blob []) % 8 ≡ 0 = (aos_laws form slots cells).whole_bytes blob [] inside in
    omega arith

-- the places of a cell's bits
pub cell_at : (form : AosForm) (slots : ℕ) (widths offsets : List ℕ) (stride slot cell bit : ℕ) → LieInParts form widths offsets stride
    → slot < slots → cell < length widths → bit < slice_index widths cell
    → owner_at (aos_layout form slots widths) 0 (slot * stride + slice_index offsets cell + bit) ≡ Bit slot cell bit
cell_at form slots widths offsets stride slot cell bit h slot_in cell_in bit_in =
    let part : List Owner = part_of form widths slot in
    let place : ℕ = slice_index offsets cell + bit in
    let low : place < length part = within part place slot cell bit (h.here slot cell bit cell_in bit_in) in
    let grouped : slot * stride + slice_index offsets cell + bit ≡ slot * stride + place = omega arith in
    grind (arith, slice_index, layout_parts, get_or, slot_at)

-- a cell ends within the blob
pub cell_end : (form : AosForm) (slots : ℕ) (widths offsets : List ℕ) (stride slot cell : ℕ) → LieInParts form widths offsets stride
    → slot < slots → cell < length widths → 1 ≤ slice_index widths cell → slot * stride + slice_index offsets cell + slice_index widths cell ≤ slots * stride
cell_end form slots widths offsets stride slot cell h slot_in cell_in some =
    let part : List Owner = part_of form widths slot in
    let last : ℕ = slice_index widths cell - 1 in
    let place : ℕ = slice_index offsets cell + last in
    let low : place < length part = within part place slot cell last (h.here slot cell last cell_in (omega arith)) in
    let fits : slot * stride + stride ≤ slots * stride = row_fits slot stride slots stride slot_in (omega arith) in
    omega arith

-- a cell has one piece
pub located_is : (form : AosForm) (slots : ℕ) (cells : List Cell) (offsets : List ℕ) (stride slot cell : ℕ) (piece : Piece)
    → (0 < slots → LieInParts form (widths_of cells) offsets stride) → slots * stride ≤ 2 ^ 31 → slot < slots → cell < length cells
    → piece.blob ≡ 0 → piece.bit ≡ slot * stride + slice_index offsets cell → piece.bits ≡ slice_index (widths_of cells) cell
    → IsLocated (aos_layout form slots (widths_of cells)) slot cell (slice_index (map (λ (h : Hold). h.width) (full_holds cells)) cell) (piece ∷ [])
located_is form slots cells offsets stride slot cell piece h bound slot_in cell_in blob bit bits =
    let widths : List ℕ = widths_of cells in
    let layout : List (List Owner) = aos_layout form slots widths in
    let w : ℕ = slice_index widths cell in
    let stored : LieInParts form widths offsets stride = h (omega arith) in
    let width = cell_width cells cell w cell_in refl in
    let some : 1 ≤ w = width.some in
    let end : slot * stride + slice_index offsets cell + w ≤ slots * stride = cell_end form slots widths offsets stride slot cell stored slot_in width.inside some in
    let one : IsLocated layout slot cell w (piece ∷ []) =
    one_piece layout slot cell w piece bits (omega arith) (omega arith)
    (λ k l. grind (arith, cell_at)) in
    subst (λ (n : ℕ). IsLocated layout slot cell n (piece ∷ [])) (sym width.hold) one

-- a part that is too long makes the blob too long
pub big_part : (form : AosForm) (slots : ℕ) (widths : List ℕ) → 0 < slots → ((slot : ℕ) → 2 ^ 31 < length (part_of form widths slot))
    → IsTooBig slots (aos_layout form slots widths)
big_part form zero widths some long = absurd (omega arith)
big_part form (suc n) widths some long = grind (arith, flat_map, range_with_len, length-append, sum_by, layout_parts)

-- the limits, where each part has `stride` bits
pub big_blob : (form : AosForm) (slots : ℕ) (widths offsets : List ℕ) (stride : ℕ) → LieInParts form widths offsets stride → 2 ^ 31 < slots * stride
    → IsTooBig slots (aos_layout form slots widths)
big_blob form slots widths offsets stride h long = grind (arith, sum_by, layout_size)

pub not_too_big : (form : AosForm) (slots : ℕ) (widths offsets : List ℕ) (stride : ℕ) → (0 < slots → LieInParts form widths offsets stride)
    → slots ≤ 2 ^ 24 → slots * stride ≤ 2 ^ 31 → IsTooBig slots (aos_layout form slots widths) → ⊥
not_too_big form slots widths offsets stride h few small big =
    let size : sum_by length (aos_layout form slots widths) ≡ slots * stride = layout_size form slots widths offsets stride h in grind (arith, ⊎_elim)

-- an offset as the code reads it
pub offset_read : (form : AosForm) (cells : List Cell) (offsets : List ℕ) (stride cell offset : ℕ) → LieInParts form (widths_of cells) offsets stride
    → cell < length cells → offset ≡ get_or offsets cell offset → offset ≡ slice_index offsets cell
offset_read form cells offsets stride cell offset h inside read = grind (arith, length-map, get_or_read)

-- an offset fits its type
pub offset_fits : (form : AosForm) (slots : ℕ) (cells : List Cell) (offsets : List ℕ) (stride cell offset : ℕ)
    → (0 < slots → LieInParts form (widths_of cells) offsets stride) → slots * stride ≤ 2 ^ 31 → 0 < slots → cell < length cells
    → offset ≡ get_or offsets cell offset → offset ≤ 2 ^ 31
offset_fits form slots cells offsets stride cell offset h bound some cell_in read =
    let stored : LieInParts form (widths_of cells) offsets stride = h some in
    let same : offset ≡ slice_index offsets cell = offset_read form cells offsets stride cell offset stored cell_in read in
    let width = cell_width cells cell (slice_index (widths_of cells) cell) cell_in refl in
    let end : 0 * stride + slice_index offsets cell + slice_index (widths_of cells) cell ≤ slots * stride =
    cell_end form slots (widths_of cells) offsets stride 0 cell stored some width.inside width.some in
    omega arith
