-- Bytes of one blob that are moved, as bits of blobs.
use Rattle.std.specs.Prelude.{◌≡◌, ℕ, ◌+◌, ◌*◌, ◌/◌, ◌%◌, ◌<◌, List, [], length, get_or, set, map}
use Rattle.piece_bits.specs.Imports.{sym, ap, ◌∙◌, arith, bit_at, get_or-map, get_or-set_same, get_or-set_other, map-set, set-get_or, bit_of, bit_of_byte, IsMoved}
use Rattle.piece_bits.specs.MovedLaws.{AreMoved}

-- the bit of a byte that is another
same_bit : (one two : List ℕ) (place other index there low : ℕ) → place ≡ 8 * index + low → other ≡ 8 * there + low → low < 8 → get_or one index 0 ≡ get_or two there 0
    → bit_of one place ≡ bit_of two other
same_bit one two place other index there low p o l same = grind (arith, bit_of_byte, bit_at)

pub moved_bits : (others old : List (List ℕ)) (source from target at len : ℕ) (new : List ℕ) → target < length old
    → IsMoved (get_or old target []) at (get_or others source []) from len new → AreMoved others old (set old target new) source (8 * from) target (8 * at) (8 * len)
moved_bits others old source from target at len new target_in h =
    let here : get_or (set old target new) target [] ≡ new = get_or-set_same old target new [] target_in in
    record {
      inside = λ j l.
          let byte : j / 8 < len = omega arith in
          ap (λ (bytes : List ℕ). bit_of bytes (8 * at + j)) here
          ∙ same_bit new (get_or others source []) (8 * at + j) (8 * from + j) (at + j / 8) (from + j / 8) (j % 8) (omega arith) (omega arith) (omega arith) (h.inside (j / 8) byte);
      before = λ p l. grind (arith, same_bit);
      behind = λ p l. grind (arith, same_bit);
      beside = λ b p apart. ap (λ (bytes : List ℕ). bit_of bytes p) (get_or-set_other old target b new [] apart);
      lengths =
          let size : length new ≡ get_or (map (length {A = ℕ}) old) target 0 = h.size ∙ sym (get_or-map (length {A = ℕ}) old target [] 0 target_in) in
          map-set (length {A = ℕ}) old target new ∙ ap (set (map (length {A = ℕ}) old) target) size ∙ set-get_or (map (length {A = ℕ}) old) target 0;
    }
