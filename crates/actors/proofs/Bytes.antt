-- The bits of a leaf in a row are written, and a byte of them is read again.
use Rattle.actors.proofs.Imports.{◌≡◌, ℕ, ◌+◌, ◌*◌, ◌%◌, ◌^◌, ◌<◌, Bool, true, false, ℤ, List, [], length, get_or, map, refl, sym, ap, ◌∙◌, arith, ◌==◌, ◌&&◌, if◌then◌else◌, slice_index, slice_set, bit_at, and_from, and_parts, eq-eqb, eqb-true, get_or-set_same, get_or-map, length-map, length-set, map-set, set-get_or, Hold, Piece, Owner, Pad, Bit, owner_at, number, digit, IsBitOf, number_same, number_bits, bit_number, digit_lt, written_bit, IsWrite, bit_in, bit_of_byte, IsCell, bit_count, spot_count, spot_owned, spots_of, spot_at, bit_at_spot, IsOutside, held, held_digit, Place, byte_at, with_byte, with_bits_of, HasByte}

module _ {layout : List (List Owner)} {slots : ℕ} {holds : List Hold} {slot cell : ℕ} {hold : Hold} {pieces : List Piece} (at : IsCell layout slots holds slot cell hold pieces)
    (old new : List (List ℕ)) (value : ℤ) (code : ℕ) (code_is : code ≡ number (digit (held hold value)) hold.width)
    (inside : (k : ℕ) → k < length (spots_of pieces) → bit_at_spot (bit_in new) (spots_of pieces) k ≡ bit_at code k)
    (outside : (b p : ℕ) → IsOutside (spots_of pieces) b p → bit_in new b p ≡ bit_in old b p) where
  abbrev width : ℕ
  width = slice_index (map (λ (h : Hold). h.width) holds) cell

  width_is : width ≡ hold.width
  width_is = sym (spot_count layout slot cell width pieces at.located) ∙ bit_count at

  owner_of_spot : (k : ℕ) → k < width → owner_at layout (spot_at (spots_of pieces) k).0 (spot_at (spots_of pieces) k).1 ≡ Bit slot cell k
  owner_of_spot k l = spot_owned layout slot cell width pieces at.located k l

  -- its own bits are those of the value
  own_bit : (b p k : ℕ) → owner_at layout b p ≡ Bit slot cell k → bit_in new b p ≡ digit value k
  own_bit b p k owner =
      let owned : IsBitOf slots (map (λ (h : Hold). h.width) holds) slot cell k = at.laid.owned b p slot cell k owner in
      let low : k < hold.width = omega (arith, owned.bit_in, width_is) in
      let spot = spot_at (spots_of pieces) k in
      let place = at.laid.once b p spot.0 spot.1 slot cell k owner (owner_of_spot k owned.bit_in) in
      ap (λ (w : ℕ). bit_in new w p) place.0 ∙ ap (λ (w : ℕ). bit_in new spot.0 w) place.1
      ∙ inside k (omega (arith, low, bit_count at)) ∙ ap (λ (w : ℕ). bit_at w k) code_is
      ∙ bit_number (digit (held hold value)) hold.width k (λ j m. digit_lt (held hold value) j) low ∙ held_digit hold value k low

  -- a bit that is none of them stands
  other_bit : (b p : ℕ) → ((k : ℕ) → owner_at layout b p ≡ Bit slot cell k → ⊥) → bit_in new b p ≡ bit_in old b p
  other_bit b p none =
      outside b p (λ k l spot. none k (ap (λ (w : ℕ × ℕ). owner_at layout w.0 w.1) (sym spot) ∙ owner_of_spot k (omega (arith, l, bit_count at, width_is))))

  pub is_write : IsWrite layout slot cell value (bit_in old) (bit_in new)
  is_write b p = by_owner (owner_at layout b p) refl where
    by_owner : (owner : Owner) → owner_at layout b p ≡ owner → bit_in new b p ≡ written_bit owner slot cell value (bit_in old b p)
    by_owner Pad e = other_bit b p (λ k is. (let clash : Pad ≡ Bit slot cell k = sym e ∙ is in cc))
    by_owner (Bit s c k) e = by_test (s == slot && c == cell) refl where
      by_test : (t : Bool) → (s == slot && c == cell) ≡ t → bit_in new b p ≡ (if t then digit value k else bit_in old b p)
      by_test true is =
          (let both = and_parts (s == slot) (c == cell) is in
          own_bit b p k (e ∙ ap (λ (w : ℕ). Bit w c k) (eqb-true s slot both.0) ∙ ap (λ (w : ℕ). Bit slot w k) (eqb-true c cell both.1)))
      by_test false is =
          other_bit b p (λ j there.
          (let same : Bit s c k ≡ Bit slot cell j = sym e ∙ there in
          let slots_same : s ≡ slot = cc in
          let cells_same : c ≡ cell = cc in
          let bad : true ≡ false = sym (and_from (s == slot) (c == cell) (eq-eqb s slot slots_same) (eq-eqb c cell cells_same)) ∙ is in
          cc))

-- a byte by its bits
byte_bits : (byte : ℕ) → byte < 256 → number (bit_at byte) 8 ≡ byte
byte_bits byte small = number_bits byte 8 ∙ (let same : byte % 2 ^ 8 ≡ byte = omega (arith, small) in same)

-- a byte that was put into blobs, once the bits of a leaf in a row were written
pub byte_changed : (layout : List (List Owner)) (row leaf : ℕ) (value : ℤ) (scratch new : List (List ℕ)) (place : Place) (byte : ℕ) → HasByte scratch place
    → IsWrite layout row leaf value (bit_in (with_byte scratch place byte)) (bit_in new) → byte_at new place < 256
    → byte_at new place ≡ with_bits_of layout place row leaf value byte
byte_changed layout row leaf value scratch new place byte there write small =
    let put : get_or (get_or (with_byte scratch place byte) place.blob []) place.byte 0 ≡ byte = grind (arith, get_or-set_same, slice_set) in
    sym (byte_bits (byte_at new place) small)
    ∙ number_same (bit_at (byte_at new place)) (λ k. written_bit (owner_at layout place.blob (8 * place.byte + k)) row leaf value (bit_at byte k)) 8
    (λ k l. grind (arith, bit_of_byte, bit_at))

-- a byte that is put changes no length
pub put_lengths : (blobs : List (List ℕ)) (place : Place) (byte : ℕ) → HasByte blobs place → map length (with_byte blobs place byte) ≡ map length blobs
put_lengths blobs place byte there =
    map-set length blobs place.blob (slice_set (get_or blobs place.blob []) place.byte byte)
    ∙ ap (λ (n : ℕ). slice_set (map length blobs) place.blob n) (length-set (get_or blobs place.blob []) place.byte byte ∙ sym (get_or-map (length {A = ℕ}) blobs place.blob [] 0 there.blob_in))
    ∙ set-get_or (map length blobs) place.blob 0

-- where no length changes, a byte is still there
pub there_still : (old new : List (List ℕ)) (place : Place) → map length new ≡ map length old → HasByte old place → HasByte new place
there_still old new place same there =
    let count : length new ≡ length old = sym (length-map new (length {A = ℕ})) ∙ ap length same ∙ length-map old (length {A = ℕ}) in
    let inside : place.blob < length new = omega (arith, there.blob_in, count) in
    let long : length (get_or new place.blob []) ≡ length (get_or old place.blob []) =
    sym (get_or-map (length {A = ℕ}) new place.blob [] 0 inside) ∙ ap (λ (w : List ℕ). get_or w place.blob 0) same ∙ get_or-map (length {A = ℕ}) old place.blob [] 0 there.blob_in in
    record { blob_in = inside; byte_in = omega (arith, there.byte_in, long) }
