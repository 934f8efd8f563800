-- The number that the low bits of eight bytes say, and the high ones of eight bytes in reverse order.
use Rattle.piece_bits.proofs.Imports.{◌≡◌, ℕ, ◌+◌, ◌-◌, ◌*◌, ◌/◌, ◌%◌, ◌^◌, ◌<◌, ◌≤◌, List, get_or, bit_and, sym, ap, ◌∙◌, arith, and_mask, shr-shr, bit_at-lt, mod-eq_of_lt, number, number_same, number_bits, number_lt, bit_number, bit_of, bit_read, field_read, turned_place}
use Rattle.blobs.specs.Turned.{IsTurned}

-- a field is read off the eight bytes from that of its first bit on
pub low_field : (bytes : List ℕ) (at first low n ones word : ℕ) → at ≡ 8 * first + low → low + n ≤ 64 → ones ≡ 2 ^ n - 1
    → word ≡ number (λ k. bit_of bytes (8 * first + k)) 64 → bit_and (word / 2 ^ low) ones ≡ number (λ k. bit_of bytes (at + k)) n
low_field bytes at first low n ones word place within mask is =
    ap (λ (m : ℕ). bit_and (word / 2 ^ low) m) mask ∙ and_mask (word / 2 ^ low) n
    ∙ field_read bytes at first low n word place within (bit_read bytes (8 * first) 64 word is)

pub low_bytes : (bytes : List ℕ) (first n ones word : ℕ) → n ≤ 64 → ones ≡ 2 ^ n - 1
    → word ≡ number (λ k. bit_of bytes (8 * first + k)) 64 → bit_and word ones ≡ number (λ k. bit_of bytes (8 * first + k)) n
low_bytes bytes first n ones word few mask is =
    ap (λ (w : ℕ). bit_and w ones) (omega arith) ∙ low_field bytes (8 * first) first 0 n ones word (omega arith) (omega arith) mask is

-- the high bits of eight turned bytes are the turned bytes of a shorter word
turned_high : (n k : ℕ) → IsTurned n → k < n → turned_place 64 (64 - n + k) ≡ turned_place n k
turned_high n k either below = grind arith

module _ (bytes : List ℕ) (first n word : ℕ) (turned : IsTurned n) (is : word ≡ number (λ k. bit_of bytes (8 * first + turned_place 64 k)) 64) where
  bit_below : (j : ℕ) → j < 64 → bit_of bytes (8 * first + turned_place 64 j) < 2
  bit_below j l = bit_at-lt (get_or bytes ((8 * first + turned_place 64 j) / 8) 0) ((8 * first + turned_place 64 j) % 8)

  pub high_fits : word / 2 ^ (64 - n) < 2 ^ n
  high_fits = grind (arith, number_lt, bit_below)

  pub high_bytes : word / 2 ^ (64 - n) ≡ number (λ k. bit_of bytes (8 * first + turned_place n k)) n
  high_bytes =
      sym (number_same (λ k. bit_of bytes (8 * first + turned_place n k)) (λ k. (word / 2 ^ (64 - n) / 2 ^ k) % 2) n
      (λ k l.
      ap (λ (p : ℕ). bit_of bytes (8 * first + p)) (sym (turned_high n k turned l))
      ∙ sym (bit_number (λ j. bit_of bytes (8 * first + turned_place 64 j)) 64 (64 - n + k) bit_below (omega arith))
      ∙ ap (λ (w : ℕ). (w / 2 ^ (64 - n + k)) % 2) (sym is) ∙ ap (λ (w : ℕ). w % 2) (sym (shr-shr word (64 - n) k)))
      ∙ number_bits (word / 2 ^ (64 - n)) n ∙ mod-eq_of_lt high_fits)
