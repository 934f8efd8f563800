-- The laws of layouts packed to the bit: each bit of each cell has one place, and each blob is whole bytes.
use Rattle.std.specs.Prelude.{◌≡◌, ℕ, ◌+◌, ◌-◌, ◌%◌, ◌<◌, ◌≤◌, List, [], length, get_or, All, refl}
use Rattle.record_dim.specs.Std.{sym, ◌∙◌, arith, All-cons, All-nil, All-map}
use Rattle.places.specs.Prelude.{Owner, cells_of, field, fields, array, padded_to, bit_aos, bit_soa, IsBitOf, IsLaidOut, Has, has_same, has_padded, has_field, has_range, has_cells, Member, LaysOut, lays_out_same, has_blob, blobs_of_cells, laid_out, apart_enumerate, bit_of_cells, cells_of_bit, length-padded}
use Rattle.map_bits.specs.Bits.{packed_slots, padded_array}

-- what is padded to 64 bits is whole bytes
pub padded_bytes : (owners : List Owner) → length (padded_to 64 owners) % 8 ≡ 0
padded_bytes owners = grind (arith, length-padded)

-- the bits of one cell in one slot
abbrev BitOfField : ℕ → ℕ × ℕ → ℕ → ℕ → ℕ → Type 0
BitOfField slot cell s c k = (s ≡ slot) × (c ≡ cell.0) × (k < cell.1)

-- the bits of one slot
abbrev BitOfSlot : List ℕ → ℕ → ℕ → ℕ → ℕ → Type 0
BitOfSlot widths slot s c k = (s ≡ slot) × ((w : ℕ) × Member (cells_of widths) c w × (k < w))

has_fields : (widths : List ℕ) (slot : ℕ) → Has (BitOfSlot widths slot) (fields slot (cells_of widths))
has_fields widths slot =
    let all = has_cells (field slot) (BitOfField slot) (cells_of widths) (apart_enumerate 0 widths)
    (λ c w. has_field slot c w) (λ c w s c' k o. o.1) in grind (arith, has_same)

-- the bits of slot after slot are those of the slots' cells
has_slots : (slots : ℕ) (widths : List ℕ) → Has (IsBitOf slots widths) (packed_slots slots widths)
has_slots slots widths =
    let all = has_range (λ slot. fields slot (cells_of widths)) (BitOfSlot widths) 0 slots
    (λ i low high. has_fields widths i)
    (λ i j s c k (one : BitOfSlot widths i s c k) (two : BitOfSlot widths j s c k). sym one.0 ∙ two.0) in
    has_same {Out = IsBitOf slots widths} all
    (λ s c k (h : (i : ℕ) × (0 ≤ i) × (i < 0 + slots) × BitOfSlot widths i s c k).
    bit_of_cells slots widths s c k (omega arith) h.3.1)
    (λ s c k (h : IsBitOf slots widths s c k).
    (s, (omega arith), (omega arith), (refl, cells_of_bit slots widths s c k h)))

-- the laws of an array of structs, whatever each cell takes
pub bit_aos_laws : (slots : ℕ) (widths : List ℕ) → All (λ w. w ≤ 64) widths → All (λ w. 1 ≤ w) widths → IsLaidOut (bit_aos slots widths) slots widths
bit_aos_laws slots widths narrow wide =
    let owners : List Owner = packed_slots slots widths in
    laid_out
    (has_blob (has_padded ((64 - length owners % 64) % 64) (has_slots slots widths)))
    (All-cons (λ (blob : List Owner). length blob % 8 ≡ 0) (padded_to 64 owners) [] (padded_bytes owners) (All-nil (λ (blob : List Owner). length blob % 8 ≡ 0)))
    narrow wide

-- the bits of one array
abbrev BitOfArray : ℕ → ℕ × ℕ → ℕ → ℕ → ℕ → Type 0
BitOfArray slots cell s c k = (s < slots) × (c ≡ cell.0) × (k < cell.1)

has_array : (slots c w : ℕ) → Has (BitOfArray slots (c, w)) (array slots (c, w))
has_array slots c w =
    let all = has_range (λ slot. field slot (c, w)) (λ slot. BitOfField slot (c, w)) 0 slots
    (λ i low high. has_field i c w)
    (λ i j s c' k (one : BitOfField i (c, w) s c' k) (two : BitOfField j (c, w) s c' k). sym one.0 ∙ two.0) in grind (arith, has_same)

has_padded_array : (slots c w : ℕ) → Has (BitOfArray slots (c, w)) (padded_array slots (c, w))
has_padded_array slots c w = has_padded ((64 - length (array slots (c, w)) % 64) % 64) (has_array slots c w)

soa_lays_out : (slots : ℕ) (widths : List ℕ) → LaysOut (IsBitOf slots widths) (bit_soa slots widths)
soa_lays_out slots widths =
    lays_out_same
    (blobs_of_cells (padded_array slots) (BitOfArray slots) (cells_of widths) (apart_enumerate 0 widths)
    (λ c w. has_padded_array slots c w) (λ c w s c' k o. o.1))
    (λ s c k (h : (w : ℕ) × Member (cells_of widths) c w × BitOfArray slots (c, w) s c k).
    bit_of_cells slots widths s c k h.2.0 (h.0, h.1, h.2.2))
    (λ s c k (h : IsBitOf slots widths s c k).
    let cell = cells_of_bit slots widths s c k h in
    (cell.0, cell.1, (h.slot_in, refl, cell.2)))

-- the laws of a struct of arrays, whatever each cell takes
pub bit_soa_laws : (slots : ℕ) (widths : List ℕ) → All (λ w. w ≤ 64) widths → All (λ w. 1 ≤ w) widths → IsLaidOut (bit_soa slots widths) slots widths
bit_soa_laws slots widths narrow wide =
    laid_out (soa_lays_out slots widths)
    (All-map (λ (blob : List Owner). length blob % 8 ≡ 0) (padded_array slots) (cells_of widths)
    (λ k d l. padded_bytes (array slots (get_or (cells_of widths) k d))))
    narrow wide
