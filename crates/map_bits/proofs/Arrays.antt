-- A struct of arrays packed to the bit: the lengths of its blobs, and the places of a cell.
use Rattle.map_bits.proofs.Imports.{◌≡◌, ℕ, ◌+◌, ◌-◌, ◌*◌, ◌/◌, ◌%◌, ◌^◌, ◌<◌, ◌≤◌, List, [], ◌∷◌, length, sum_by, replicate, get_or, slice_index, take, refl, sym, ap, ◌∙◌, subst, arith, mul-le, get_or-map, get_or_append_left, length-map, take_all, length-enumerate_from, get_or-enumerate_from, sum_by_more, sum_by-take-le, Owner, Pad, Bit, owner_at, cells_of, field, array, bit_soa, IsLocated, IsLaidOut, Hold, Piece, within, field_at, length-field, length-parts, slot_at, up, length-padded, one_piece, widths_in, padded_array}
use Rattle.map_bits.proofs.Widths.{IsTaken, taken_at}

-- one blob: its length in bits, and its places
array_size : (slots c w : ℕ) → length (padded_array slots (c, w)) ≡ up 64 (slots * w)
array_size slots c w = grind (arith, length-padded, length-parts, length-field)

array_at : (slots c w slot bit : ℕ) → slot < slots → bit < w → get_or (padded_array slots (c, w)) (slot * w + bit) Pad ≡ Bit slot c bit
array_at slots c w slot bit slot_in bit_in =
    let owners : List Owner = array slots (c, w) in
    let place : ℕ = slot * w + bit in
    let at : get_or owners place Pad ≡ Bit slot c bit =
    slot_at Pad (λ slot. field slot (c, w)) w (λ s. length-field s c w) slots slot bit slot_in bit_in ∙ field_at slot c w bit bit_in in
    get_or_append_left owners (replicate ((64 - length owners % 64) % 64) Pad) Pad place (within owners place slot c bit at) ∙ at

-- there is a blob for each cell
pub blob_each : (slots : ℕ) (widths : List ℕ) → length (bit_soa slots widths) ≡ length widths
blob_each slots widths = length-map (cells_of widths) (padded_array slots) ∙ length-enumerate_from 0 widths

blob_is : (slots : ℕ) (widths : List ℕ) (cell : ℕ) → cell < length widths
    → get_or (bit_soa slots widths) cell [] ≡ padded_array slots (cell, slice_index widths cell)
blob_is slots widths cell inside =
    let size : length (cells_of widths) ≡ length widths = length-enumerate_from 0 widths in
    let pair : get_or (cells_of widths) cell (0, 0) ≡ (cell, slice_index widths cell) =
    get_or-enumerate_from 0 widths cell (0, 0) inside ∙ ap (λ (n : ℕ). (n, slice_index widths cell)) (omega arith) in
    get_or-map (padded_array slots) (cells_of widths) cell (0, 0) [] (omega arith) ∙ ap (padded_array slots) pair

pub blob_size : (slots : ℕ) (widths : List ℕ) (cell : ℕ) → cell < length widths
    → length (get_or (bit_soa slots widths) cell []) ≡ up 64 (slots * slice_index widths cell)
blob_size slots widths cell inside = grind (arith, blob_is, array_size, slice_index)

-- the places of a cell's bits
pub cell_at : (slots : ℕ) (widths : List ℕ) (slot cell bit : ℕ) → slot < slots → cell < length widths → bit < slice_index widths cell
    → owner_at (bit_soa slots widths) cell (slot * slice_index widths cell + bit) ≡ Bit slot cell bit
cell_at slots widths slot cell bit slot_in cell_in bit_in = grind (arith, get_or, slice_index, blob_is, array_at)

-- the places of a cell are one piece
pub located_is : (slots : ℕ) (widths : List ℕ) (slot cell : ℕ) (piece : Piece) → IsTaken widths cell piece.bits → slots ≤ 2 ^ 24 → slot < slots
    → piece.blob ≡ cell → piece.bit ≡ slot * piece.bits → IsLocated (bit_soa slots widths) slot cell (slice_index widths cell) (piece ∷ [])
located_is slots widths slot cell piece taken few slot_in blob bit =
    let layout : List (List Owner) = bit_soa slots widths in
    let low : slot * piece.bits ≤ 2 ^ 24 * 64 = mul-le slot piece.bits (2 ^ 24) 64 (omega arith) taken.low in
    let one : IsLocated layout slot cell piece.bits (piece ∷ []) =
    one_piece layout slot cell piece.bits piece refl (omega arith) (omega arith)
    (λ k l. grind (arith, cell_at)) in
    subst (λ (n : ℕ). IsLocated layout slot cell n (piece ∷ [])) taken.same one

-- the length of a blob in bytes
pub blob_bytes_is : (slots : ℕ) (widths : List ℕ) (blob taken bits : ℕ) → IsLaidOut (bit_soa slots widths) slots widths → blob < length (bit_soa slots widths)
    → taken ≡ slice_index widths blob → bits ≡ up 64 (slots * taken) → 8 * (bits / 8) ≡ length (get_or (bit_soa slots widths) blob [])
blob_bytes_is slots widths blob taken bits laid inside t padded = grind (arith, blob_each, get_or, blob_size)

-- there is a blob for each hold
pub blob_count_is : (slots : ℕ) (holds : List Hold) → length (bit_soa slots (widths_in holds)) ≡ length holds
blob_count_is slots holds = blob_each slots (widths_in holds) ∙ length-map holds (λ (h : Hold). h.width)

-- the bits of one blob more
pub bits_next : (slots : ℕ) (holds : List Hold) (i : ℕ) (d : Hold) (bits taken more : ℕ) → i < length holds
    → taken ≡ (get_or holds i d).width → more ≡ up 64 (slots * taken)
    → bits ≡ sum_by length (take i (bit_soa slots (widths_in holds))) → bits + more ≡ sum_by length (take (i + 1) (bit_soa slots (widths_in holds)))
bits_next slots holds i d bits taken more inside t m was =
    let widths : List ℕ = widths_in holds in
    let layout : List (List Owner) = bit_soa slots widths in
    let size : length widths ≡ length holds = length-map holds (λ (h : Hold). h.width) in
    let count : length layout ≡ length holds = blob_count_is slots holds in
    let here : more ≡ length (get_or layout i []) =
    m ∙ ap (λ (n : ℕ). up 64 (slots * n)) (t ∙ taken_at holds i d inside) ∙ sym (blob_size slots widths i (omega arith)) in
    let next : sum_by length (take (i + 1) layout) ≡ sum_by length (take i layout) + length (get_or layout i []) = sum_by_more length layout i [] (omega arith) in
    omega arith

-- the blobs so far have no more bits than all
pub bits_below : (slots : ℕ) (widths : List ℕ) (i : ℕ) → sum_by length (take i (bit_soa slots widths)) ≤ sum_by length (bit_soa slots widths)
bits_below slots widths i = sum_by-take-le length (bit_soa slots widths) i

-- and at the end those are all
pub bits_all : (slots : ℕ) (holds : List Hold) (i : ℕ) → length holds ≤ i → take i (bit_soa slots (widths_in holds)) ≡ bit_soa slots (widths_in holds)
bits_all slots holds i past = grind (arith, blob_count_is, take_all)
