-- An array of structs packed to the bit: its length, and the places of a cell.
use Rattle.map_bits.proofs.Imports.{◌≡◌, ℕ, zero, suc, ◌+◌, ◌-◌, ◌*◌, ◌/◌, ◌%◌, ◌^◌, ◌<◌, ◌≤◌, ⊎_elim, List, [], ◌∷◌, ◌++◌, map, length, sum_by, replicate, get_or, slice_index, take, refl, sym, ap, ◌∙◌, subst, arith, length-append, flat_map, range_with_len, enumerate_from, sum, cases_lt, mul-le, take_all, length-map, get_or_append_left, get_or-append-add, length-map-range_with_len, get_or-map-range_with_len, map-range_with_len_more, sum_by-cons, sum_by_more, sum_by-take-le, Owner, Pad, Bit, owner_at, cells_of, field, fields, padded_to, bit_aos, IsLocated, IsLaidOut, IsTooBig, widths_in, Hold, Piece, within, field_at, length-field, length-parts, slot_at, up, length-padded, one_piece, LieInBits, packed_slots}
use Rattle.map_bits.proofs.Widths.{IsTaken, taken_at}

-- the length of the cells that are numbered from n on
fields_size : (slot n : ℕ) (widths : List ℕ) → length (flat_map (field slot) (enumerate_from n widths)) ≡ sum widths
fields_size slot n [] = refl
fields_size slot n (w ∷ widths) =
    let first : List Owner = field slot (n, w) in
    let rest : List Owner = flat_map (field slot) (enumerate_from (n + 1) widths) in
    let both : length (first ++ rest) ≡ length first + length rest = length-append first rest in
    let one : length first ≡ w = length-field slot n w in
    let others : length rest ≡ sum widths = fields_size slot (n + 1) widths in
    (omega arith) ∙ sym (sum_by-cons (λ (x : ℕ). x) w widths)

-- bit k of cell c
fields_at : (slot n : ℕ) (widths : List ℕ) (c k : ℕ) → c < length widths → k < slice_index widths c
    → get_or (flat_map (field slot) (enumerate_from n widths)) (sum (take c widths) + k) Pad ≡ Bit slot (n + c) k
fields_at slot n [] c k inside low = absurd (omega arith)
fields_at slot n (w ∷ widths) zero k inside low = grind (arith, flat_map, enumerate_from, length-field, sum, get_or, get_or_append_left, field_at)
fields_at slot n (w ∷ widths) (suc c) k inside low =
    let one : length (field slot (n, w)) ≡ w = length-field slot n w in
    let all : sum (w ∷ take c widths) ≡ w + sum (take c widths) = sum_by-cons (λ (x : ℕ). x) w (take c widths) in
    grind (arith, get_or, get_or-append-add, sum, (fields_at slot (n + 1) widths c k (omega arith) low))

slot_size : (widths : List ℕ) (slot : ℕ) → length (fields slot (cells_of widths)) ≡ sum widths
slot_size widths slot = fields_size slot 0 widths

-- the length of the blob in bits
pub blob_size : (slots : ℕ) (widths : List ℕ) → length (padded_to 64 (packed_slots slots widths)) ≡ up 64 (slots * sum widths)
blob_size slots widths = grind (arith, length-padded, length-parts, sum, slot_size)

-- the places of a cell's bits
pub cell_at : (slots : ℕ) (widths : List ℕ) (slot cell bit : ℕ) → slot < slots → cell < length widths → bit < slice_index widths cell
    → owner_at (bit_aos slots widths) 0 (slot * sum widths + (sum (take cell widths) + bit)) ≡ Bit slot cell bit
cell_at slots widths slot cell bit slot_in cell_in bit_in =
    let owners : List Owner = packed_slots slots widths in
    let part : List Owner = fields slot (cells_of widths) in
    let j : ℕ = sum (take cell widths) + bit in
    let place : ℕ = slot * sum widths + j in
    let number : 0 + cell ≡ cell = omega arith in
    let here : get_or part j Pad ≡ Bit slot cell bit = fields_at slot 0 widths cell bit cell_in bit_in ∙ ap (λ (i : ℕ). Bit slot i bit) number in
    let low : j < length part = within part j slot cell bit here in
    let size : length part ≡ sum widths = slot_size widths slot in
    let at : get_or owners place Pad ≡ Bit slot cell bit =
    slot_at Pad (λ slot. fields slot (cells_of widths)) (sum widths) (slot_size widths) slots slot j slot_in (omega arith) ∙ here in
    get_or_append_left owners (replicate ((64 - length owners % 64) % 64) Pad) Pad place (within owners place slot cell bit at) ∙ at

-- the places of a cell are one piece
pub located_is : (slots : ℕ) (widths : List ℕ) (stride slot cell : ℕ) (piece : Piece) → IsTaken widths cell piece.bits
    → stride ≡ sum widths → slots * stride ≤ 2 ^ 31 → slot < slots
    → piece.blob ≡ 0 → piece.bit ≡ sum (take cell widths) + slot * stride
    → IsLocated (bit_aos slots widths) slot cell (slice_index widths cell) (piece ∷ [])
located_is slots widths stride slot cell piece taken ends bound slot_in blob bit =
    let layout : List (List Owner) = bit_aos slots widths in
    let owners : List Owner = padded_to 64 (packed_slots slots widths) in
    let last : ℕ = piece.bits - 1 in
    let before : slot * stride ≡ slot * sum widths = ap (λ (n : ℕ). slot * n) ends in
    let each : (k : ℕ) → k < piece.bits → owner_at layout 0 (piece.bit + k) ≡ Bit slot cell k = λ k l.
    let place : piece.bit + k ≡ slot * sum widths + (sum (take cell widths) + k) = omega arith in
    ap (λ (p : ℕ). owner_at layout 0 p) place ∙ cell_at slots widths slot cell k slot_in taken.inside (subst (λ (n : ℕ). k < n) taken.same l) in
    let end : piece.bit + last < length owners = within owners (piece.bit + last) slot cell last (each last (omega arith)) in
    let size : length owners ≡ up 64 (slots * sum widths) = blob_size slots widths in
    let total : slots * stride ≡ slots * sum widths = ap (λ (n : ℕ). slots * n) ends in
    subst (λ (n : ℕ). IsLocated layout slot cell n (piece ∷ [])) taken.same (grind (arith, one_piece))

-- the bits of all slots, as the mapping keeps them
total_is : (slots : ℕ) (widths offsets : List ℕ) (stride : ℕ) → (0 < slots → LieInBits widths offsets stride) → slots * stride ≡ slots * sum widths
total_is slots widths offsets stride h = grind (arith, ⊎_elim, sum, cases_lt)

-- the length of the one blob in bytes
pub blob_bytes_is : (slots : ℕ) (widths offsets : List ℕ) (stride blob bits : ℕ) → IsLaidOut (bit_aos slots widths) slots widths
    → (0 < slots → LieInBits widths offsets stride) → bits ≡ up 64 (slots * stride)
    → blob < length (bit_aos slots widths) → 8 * (bits / 8) ≡ length (get_or (bit_aos slots widths) blob [])
blob_bytes_is slots widths offsets stride blob bits laid h padded inside = grind (arith, get_or, sum, blob_size)

-- where a cell begins, as it is kept
pub begin_at : (widths offsets : List ℕ) (stride cell d : ℕ) → LieInBits widths offsets stride → cell < length widths
    → get_or offsets cell d ≡ sum (take cell widths)
begin_at widths offsets stride cell d h inside = grind (arith, get_or, get_or-map-range_with_len, sum)

pub begins_each : (widths offsets : List ℕ) (stride : ℕ) → LieInBits widths offsets stride → length offsets ≡ length widths
begins_each widths offsets stride h = grind (arith, length-map-range_with_len, sum)

-- it fits its type
pub begin_fits : (slots : ℕ) (widths : List ℕ) (stride cell : ℕ) → stride ≡ sum widths → slots * stride ≤ 2 ^ 31 → 0 < slots → sum (take cell widths) ≤ 2 ^ 31
begin_fits slots widths stride cell ends bound filled = grind (arith, sum, sum_by-take-le, mul-le)

-- the limits
layout_size : (slots : ℕ) (widths : List ℕ) → sum_by length (bit_aos slots widths) ≡ up 64 (slots * sum widths)
layout_size slots widths = grind (arith, sum_by, blob_size)

-- a slot that is too long makes the blob too long
pub big_slot : (slots : ℕ) (widths : List ℕ) → 0 < slots → 2 ^ 31 < sum widths → IsTooBig slots (bit_aos slots widths)
big_slot slots widths filled long = grind (arith, sum_by, sum, layout_size, mul-le)

pub big_blob : (slots : ℕ) (widths offsets : List ℕ) (stride : ℕ) → LieInBits widths offsets stride → 2 ^ 31 < up 64 (slots * stride)
    → IsTooBig slots (bit_aos slots widths)
big_blob slots widths offsets stride h long = grind (arith, sum_by, sum, layout_size)

pub not_too_big : (slots : ℕ) (widths offsets : List ℕ) (stride : ℕ) → (0 < slots → LieInBits widths offsets stride) → slots ≤ 2 ^ 24
    → up 64 (slots * stride) ≤ 2 ^ 31 → IsTooBig slots (bit_aos slots widths) → ⊥
not_too_big slots widths offsets stride h few small big = grind (arith, sum, layout_size, total_is, ⊎_elim)

-- one cell more, as the code reads it
pub end_next : (holds : List Hold) (i : ℕ) (d : Hold) (end bits : ℕ) → i < length holds → bits ≡ (get_or holds i d).width
    → end ≡ sum (take i (widths_in holds)) → end + bits ≡ sum (take (i + 1) (widths_in holds))
end_next holds i d end bits inside b was = grind (arith, length-map, get_or, taken_at, sum, sum_by_more)

-- one more that begins behind those before it
pub begins_more : (widths old new : List ℕ) (i end : ℕ) → old ≡ map (λ c. sum (take c widths)) (range_with_len 0 i) → end ≡ sum (take i widths)
    → new ≡ old ++ end ∷ [] → new ≡ map (λ c. sum (take c widths)) (range_with_len 0 (i + 1))
begins_more widths old new i end each last pushed =
    pushed
    ∙ ap (λ (xs : List ℕ). xs ++ end ∷ []) each
    ∙ ap (λ (n : ℕ). map (λ (c : ℕ). sum (take c widths)) (range_with_len 0 i) ++ n ∷ []) last
    ∙ sym (map-range_with_len_more (λ (c : ℕ). sum (take c widths)) 0 i i (omega arith))

-- all cells are laid out
pub stored_all : (holds : List Hold) (i : ℕ) (offsets : List ℕ) (end : ℕ) → i ≤ length holds → length holds ≤ i
    → offsets ≡ map (λ c. sum (take c (widths_in holds))) (range_with_len 0 i) → end ≡ sum (take i (widths_in holds))
    → LieInBits (widths_in holds) offsets end
stored_all holds i offsets end low high begins ends = grind (arith, length-map, sum, range_with_len, take_all)

-- the cells so far take no more than all
pub end_below : (widths : List ℕ) (i : ℕ) → sum (take i widths) ≤ sum widths
end_below widths i = sum_by-take-le (λ (x : ℕ). x) widths i

-- what is padded to 64 bits is not fewer bits
pub bound_is : (bits : ℕ) → up 64 bits ≤ 2 ^ 31 → bits ≤ 2 ^ 31
bound_is bits small = omega arith
