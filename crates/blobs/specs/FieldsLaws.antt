-- A field of bits within one word of bytes, and such a word at the end of the bytes.
use Rattle.std.specs.Prelude.{◌≡◌, ℕ, ◌+◌, ◌*◌, ◌-◌, ◌/◌, ◌%◌, ◌^◌, ◌<◌, ◌≤◌, List, length}
use Rattle.record_dim.specs.Std.{sym, ap, ◌∙◌, ⊎_elim, arith, bit_at, get_or_past, shr-shr, bit_at-zero, cases_lt}
use Rattle.places.specs.Prelude.{number, number_same, number_bits}
use Rattle.blobs.specs.Bits.{bit_of}
use Rattle.blobs.specs.BytesLaws.{IsPut}

-- the field is read off the word
pub field_read : (bytes : List ℕ) (at first low n word : ℕ) → at ≡ 8 * first + low → low + n ≤ 64
    → ((k : ℕ) → k < 64 → bit_at word k ≡ bit_of bytes (8 * first + k)) → word / 2 ^ low % 2 ^ n ≡ number (λ k. bit_of bytes (at + k)) n
field_read bytes at first low n word place within is =
    sym (number_same (λ k. bit_of bytes (at + k)) (λ k. (word / 2 ^ low / 2 ^ k) % 2) n
    (λ k l.
    let there : at + k ≡ 8 * first + (low + k) = omega arith in
    ap (bit_of bytes) there ∙ sym (is (low + k) (omega arith)) ∙ ap (λ (w : ℕ). w % 2) (sym (shr-shr word low k)))
    ∙ number_bits (word / 2 ^ low) n)

-- the field is written into the word, and the word into the bytes
module _ (old new : List ℕ) (at first low n value word changed : ℕ) (place : at ≡ 8 * first + low) (within : low + n ≤ 64)
    (is : (k : ℕ) → k < 64 → bit_at word k ≡ bit_of old (8 * first + k))
    (inside : (k : ℕ) → k < n → bit_at changed (low + k) ≡ bit_at value k)
    (below : (k : ℕ) → k < low → bit_at changed k ≡ bit_at word k) (above : (k : ℕ) → low + n ≤ k → bit_at changed k ≡ bit_at word k)
    (written : (k : ℕ) → k < 64 → bit_of new (8 * first + k) ≡ bit_at changed k)
    (before : (k : ℕ) → k < 8 * first → bit_of new k ≡ bit_of old k) (after : (k : ℕ) → 8 * first + 64 ≤ k → bit_of new k ≡ bit_of old k) where
  -- a bit of the word that the field leaves
  left : (k : ℕ) → 8 * first ≤ k → k < 8 * first + 64 → bit_at changed (k - 8 * first) ≡ bit_at word (k - 8 * first) → bit_of new k ≡ bit_of old k
  left k low_end high same = grind arith

  pub field_put : IsPut old new at n value
  field_put = record {
    inside = λ k h. let there : at + k ≡ 8 * first + (low + k) = omega arith in ap (bit_of new) there ∙ written (low + k) (omega arith) ∙ inside k h;
    before = λ k h. ⊎_elim (λ (l : k < 8 * first). before k l) (λ (l : 8 * first ≤ k). left k l (omega arith) (below (k - 8 * first) (omega arith))) (cases_lt k (8 * first));
    after = λ k h.
        ⊎_elim (λ (l : k < 8 * first + 64). left k (omega arith) l (above (k - 8 * first) (omega arith))) (λ (l : 8 * first + 64 ≤ k). after k l)
        (cases_lt k (8 * first + 64));
  }

-- a bit past the end is 0
pub past_end : (bytes : List ℕ) (k : ℕ) → 8 * length bytes ≤ k → bit_of bytes k ≡ 0
past_end bytes k h = grind (arith, bit_at, get_or_past, bit_at-zero)

-- a word that is written as far as there are bytes has its bits at all of its places, where it leaves what lies past the end
pub window_written : (old new : List ℕ) (at first low n word changed : ℕ) → at ≡ 8 * first + low → at + n ≤ 8 * length old → length new ≡ length old
    → ((k : ℕ) → k < 64 → bit_at word k ≡ bit_of old (8 * first + k)) → ((k : ℕ) → low + n ≤ k → bit_at changed k ≡ bit_at word k)
    → ((k : ℕ) → k < 64 → 8 * first + k < 8 * length old → bit_of new (8 * first + k) ≡ bit_at changed k)
    → (k : ℕ) → k < 64 → bit_of new (8 * first + k) ≡ bit_at changed k
window_written old new at first low n word changed place within len is above inside k h = grind (arith, past_end, cases_lt)
