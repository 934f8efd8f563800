-- The blobs: their lengths, and the places of a cell.
use Rattle.map_soa.proofs.Imports.{◌≡◌, ℕ, ◌+◌, ◌-◌, ◌*◌, ◌/◌, ◌%◌, ◌^◌, ◌<◌, ◌≤◌, ◌⊎◌, ⊎_elim, List, [], ◌∷◌, map, length, sum_by, get_or, slice_index, refl, sym, ap, ◌∙◌, subst, arith, get_or_read, get_or-map, length-map, get_or-le-sum_by, width_of, Owner, Bit, owner_at, cells_of, array, IsLocated, widths_of, full_holds, Cell, Hold, Piece, cell_width, width_read, within_blobs, within_blob, one_piece, soa_layout, LieInArrays, blob_of, soa_laws, SoaForm, Single, Aligned, Multi}
use Rattle.map_soa.proofs.Placed.{length-array, cell_at, length-cells}

-- a blob has no more bits than all blobs
pub blob_le : (form : SoaForm) (slots : ℕ) (widths offsets : List ℕ) (size blob : ℕ) → LieInArrays form slots widths offsets size
    → blob < length (soa_layout form slots widths) → length (get_or (soa_layout form slots widths) blob []) ≤ size
blob_le form slots widths offsets size blob h inside = grind (arith, sum_by, get_or, get_or-le-sum_by)

-- a cell ends within all bits
pub cell_end : (form : SoaForm) (slots : ℕ) (widths offsets : List ℕ) (size slot cell : ℕ) → LieInArrays form slots widths offsets size
    → slot < slots → cell < length widths → 1 ≤ slice_index widths cell → slice_index offsets cell + slot * slice_index widths cell + slice_index widths cell ≤ size
cell_end form slots widths offsets size slot cell h slot_in cell_in some =
    let layout : List (List Owner) = soa_layout form slots widths in
    let blob : ℕ = blob_of form cell in
    let last : ℕ = slice_index widths cell - 1 in
    let place : ℕ = slice_index offsets cell + slot * slice_index widths cell + last in
    let here : owner_at layout blob place ≡ Bit slot cell last = h.here slot cell last slot_in cell_in (omega arith) in
    let inside : blob < length layout = within_blobs layout blob place slot cell last here in
    let low : place < length (get_or layout blob []) = within_blob layout blob place slot cell last here in
    let all : length (get_or layout blob []) ≤ size = blob_le form slots widths offsets size blob h inside in
    omega arith

-- an offset fits its type
pub offset_fits : (form : SoaForm) (slots : ℕ) (cells : List Cell) (offsets : List ℕ) (size cell offset : ℕ)
    → LieInArrays form slots (widths_of cells) offsets size → size ≤ 2 ^ 31 → 0 < slots → cell < length cells → offset ≡ get_or offsets cell offset → offset ≤ 2 ^ 31
offset_fits form slots cells offsets size cell offset h bound some cell_in read =
    let width = cell_width cells cell (slice_index (widths_of cells) cell) cell_in refl in
    let same : offset ≡ slice_index offsets cell = get_or_read offsets cell offset (omega arith) read 0 in
    let end : slice_index offsets cell + 0 * slice_index (widths_of cells) cell + slice_index (widths_of cells) cell ≤ size =
    cell_end form slots (widths_of cells) offsets size 0 cell h some width.inside width.some in
    omega arith

-- the places of a cell are one piece
pub located_is : (form : SoaForm) (slots : ℕ) (cells : List Cell) (offsets : List ℕ) (size slot cell : ℕ) (piece : Piece)
    → LieInArrays form slots (widths_of cells) offsets size → size ≤ 2 ^ 31 → slot < slots → cell < length cells
    → piece.blob ≡ blob_of form cell → piece.bit ≡ slice_index offsets cell + slot * slice_index (widths_of cells) cell → piece.bits ≡ slice_index (widths_of cells) cell
    → IsLocated (soa_layout form slots (widths_of cells)) slot cell (slice_index (map (λ (h : Hold). h.width) (full_holds cells)) cell) (piece ∷ [])
located_is form slots cells offsets size slot cell piece h bound slot_in cell_in blob bit bits =
    let widths : List ℕ = widths_of cells in
    let layout : List (List Owner) = soa_layout form slots widths in
    let w : ℕ = slice_index widths cell in
    let width = cell_width cells cell w cell_in refl in
    let end : slice_index offsets cell + slot * w + w ≤ size = cell_end form slots widths offsets size slot cell h slot_in width.inside width.some in
    let one : IsLocated layout slot cell w (piece ∷ []) =
    one_piece layout slot cell w piece bits (omega arith) (omega arith)
    (λ k l. grind arith) in
    subst (λ (n : ℕ). IsLocated layout slot cell n (piece ∷ [])) (sym width.hold) one

-- how many blobs there are
pub one_blob : (form : SoaForm) (slots : ℕ) (widths : List ℕ) → (form ≡ Single) ⊎ (form ≡ Aligned) → length (soa_layout form slots widths) ≡ 1
one_blob form slots widths h = grind (arith, ⊎_elim)

pub blob_each : (form : SoaForm) (slots : ℕ) (cells : List Cell) → form ≡ Multi → length (soa_layout form slots (widths_of cells)) ≡ length cells
blob_each form slots cells e = grind (arith, length-map, length-cells)

sum_one : (layout : List (List Owner)) → length layout ≡ 1 → sum_by length layout ≡ length (get_or layout 0 [])
sum_one [] e = absurd (omega arith)
sum_one (blob ∷ []) e = omega arith
sum_one (blob ∷ next ∷ rest) e = absurd (omega arith)

-- the length of a blob in bytes, where it is the only one
pub one_blob_bytes : (form : SoaForm) (slots : ℕ) (cells : List Cell) (offsets : List ℕ) (size blob : ℕ) → LieInArrays form slots (widths_of cells) offsets size
    → (form ≡ Single) ⊎ (form ≡ Aligned) → blob < length (soa_layout form slots (widths_of cells))
    → 8 * (size / 8) ≡ length (get_or (soa_layout form slots (widths_of cells)) blob [])
one_blob_bytes form slots cells offsets size blob h in_one inside =
    let layout : List (List Owner) = soa_layout form slots (widths_of cells) in
    let single : length layout ≡ 1 = one_blob form slots (widths_of cells) in_one in
    let here : sum_by length layout ≡ length (get_or layout 0 []) = sum_one layout single in
    let same : length (get_or layout blob []) ≡ length (get_or layout 0 []) = ap (λ (b : ℕ). length (get_or layout b [])) (omega arith) in
    let whole : length (get_or layout blob []) % 8 ≡ 0 = (soa_laws form slots cells).whole_bytes blob [] inside in
    omega arith

-- and where each cell has its own
array_bytes : (slots : ℕ) (cells : List Cell) (blob width : ℕ) → blob < length cells → width ≡ slice_index (widths_of cells) blob
    → slots * width ≡ length (get_or (soa_layout Multi slots (widths_of cells)) blob [])
array_bytes slots cells blob width inside w =
    let widths : List ℕ = widths_of cells in
    let count : length widths ≡ length cells = length-map cells (λ (c : Cell). width_of c.kind) in
    let numbered : length (cells_of widths) ≡ length widths = length-cells widths in
    let here : get_or (soa_layout Multi slots widths) blob [] ≡ array slots (blob, slice_index widths blob) =
    get_or-map (array slots) (cells_of widths) blob (0, 0) [] (omega arith) ∙ ap (array slots) (cell_at widths blob (0, 0) (omega arith)) in
    ap (λ (v : ℕ). slots * v) w ∙ sym (length-array slots blob (slice_index widths blob)) ∙ sym (ap (λ (owners : List Owner). length owners) here)

-- the bits of a blob of its own
pub own_blob : (form : SoaForm) (slots : ℕ) (cells : List Cell) (blob : ℕ) (found : Cell) (width : ℕ) → form ≡ Multi → blob < length (soa_layout form slots (widths_of cells))
    → found ≡ get_or cells blob found → width ≡ width_of found.kind → slots * width ≡ length (get_or (soa_layout form slots (widths_of cells)) blob [])
own_blob form slots cells blob found width e inside read w = grind (arith, blob_each, get_or, array_bytes, width_read)

pub own_blob_bytes : (form : SoaForm) (slots : ℕ) (cells : List Cell) (blob bits : ℕ) → blob < length (soa_layout form slots (widths_of cells))
    → bits ≡ length (get_or (soa_layout form slots (widths_of cells)) blob []) → 8 * (bits / 8) ≡ length (get_or (soa_layout form slots (widths_of cells)) blob [])
own_blob_bytes form slots cells blob bits inside same =
    let whole : length (get_or (soa_layout form slots (widths_of cells)) blob []) % 8 ≡ 0 = (soa_laws form slots cells).whole_bytes blob [] inside in
    omega arith
