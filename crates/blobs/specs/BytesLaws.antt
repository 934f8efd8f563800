-- The bits of bytes: how those that lie in one byte are read and written.
use Rattle.std.specs.Prelude.{◌≡◌, ℕ, ◌+◌, ◌*◌, ◌-◌, ◌/◌, ◌%◌, ◌^◌, ◌<◌, ◌≤◌, List, length, get_or, set}
use Rattle.record_dim.specs.Std.{sym, ap, ◌∙◌, ⊎_elim, arith, bit_at, pow_pos, shr-shr, shr_split, shl_whole, get_or-set_same, get_or-set_other, bit_at-lt, bit_at_cat_low, cases_lt, cases_eq, pow_mono, mul_comm}
use Rattle.places.specs.Prelude.{number, number_same, number_split, number_bits, number_lt, bit_number}
use Rattle.blobs.specs.Bits.{bit_of}

-- the low bits of a number are those of what is left of it under a power of two
pub bit_at_mod : (n m k : ℕ) → k < m → bit_at (n % 2 ^ m) k ≡ bit_at n k
bit_at_mod n m k h =
    let split : n / 2 ^ m * 2 ^ m + n % 2 ^ m ≡ n = shr_split n m in
    sym (bit_at_cat_low (n / 2 ^ m) m (n % 2 ^ m) k h) ∙ ap (λ (w : ℕ). bit_at w k) split

-- a bit of byte `index`
pub bit_of_byte : (bytes : List ℕ) (place index low : ℕ) → place ≡ 8 * index + low → low < 8 → bit_of bytes place ≡ bit_at (get_or bytes index 0) low
bit_of_byte bytes place index low e l = grind (arith, bit_at)

-- bits that lie in one byte, as a number
pub number_of_byte : (bytes : List ℕ) (at index low n : ℕ) → at ≡ 8 * index + low → low + n ≤ 8 →
    number (λ k. bit_of bytes (at + k)) n ≡ get_or bytes index 0 / 2 ^ low % 2 ^ n
number_of_byte bytes at index low n e within =
    let byte = get_or bytes index 0 in
    number_same (λ k. bit_of bytes (at + k)) (λ k. (byte / 2 ^ low / 2 ^ k) % 2) n
    (λ k l. bit_of_byte bytes (at + k) index (low + k) (omega arith) (omega arith) ∙ ap (λ (w : ℕ). w % 2) (sym (shr-shr byte low k)))
    ∙ number_bits (byte / 2 ^ low) n

-- the bits of a number that was read
pub bit_read : (bytes : List ℕ) (at n value : ℕ) → value ≡ number (λ k. bit_of bytes (at + k)) n → (k : ℕ) → k < n → bit_at value k ≡ bit_of bytes (at + k)
bit_read bytes at n value is k h = grind (arith, bit_at, bit_number, bit_at-lt)

-- bits read so far, and those of one more byte
pub number_more : (bytes : List ℕ) (at done index low n : ℕ) → at + done ≡ 8 * index + low → low + n ≤ 8 →
    number (λ k. bit_of bytes (at + k)) (done + n) ≡ number (λ k. bit_of bytes (at + k)) done + (get_or bytes index 0 / 2 ^ low % 2 ^ n) * 2 ^ done
number_more bytes at done index low n e within =
    let part : number (λ k. bit_of bytes (at + (done + k))) n ≡ get_or bytes index 0 / 2 ^ low % 2 ^ n =
    number_same (λ k. bit_of bytes (at + (done + k))) (λ k. bit_of bytes (at + done + k)) n
    (λ k l. ap (bit_of bytes) (let same : at + (done + k) ≡ at + done + k = omega arith in same))
    ∙ number_of_byte bytes (at + done) index low n e within in grind (arith, number_split, mul_comm)

pub byte_and_bit : (at : ℕ) → at ≡ 8 * (at / 8) + at % 8
byte_and_bit at = omega arith

-- where bit `done` of a field is: `at` is bit at % 8 of byte at / 8
pub place_is : (at done : ℕ) → at + done ≡ 8 * (at / 8 + (at % 8 + done) / 8) + (at % 8 + done) % 8
place_is at done = omega arith

-- the step of the loop that reads
pub read_step : (bytes : List ℕ) (at done index low part value field : ℕ) → at + done ≡ 8 * index + low → low + part ≤ 8 → done + part ≤ 64 →
    value ≡ number (λ k. bit_of bytes (at + k)) done → field ≡ get_or bytes index 0 / 2 ^ low % 2 ^ part →
    value + field * 2 ^ done % 2 ^ 64 ≡ number (λ k. bit_of bytes (at + k)) (done + part)
read_step bytes at done index low part value field e within few so_far is =
    let fits : field < 2 ^ part = omega (arith, pow_pos part) in
    let whole : field * 2 ^ done % 2 ^ 64 ≡ field * 2 ^ done = shl_whole field part done 64 fits (omega arith) in
    let moved : field * 2 ^ done ≡ (get_or bytes index 0 / 2 ^ low % 2 ^ part) * 2 ^ done = ap (λ (w : ℕ). w * 2 ^ done) is in
    omega (arith, number_more bytes at done index low part e within)

-- what was read fits a word
pub read_fits : (bytes : List ℕ) (at n : ℕ) → n ≤ 64 → number (λ k. bit_of bytes (at + k)) n < 2 ^ 64
read_fits bytes at n few = grind (arith, number_lt, bit_at-lt, pow_mono)

-- one byte is written: its other bits and all other bytes stay
module _ (bytes : List ℕ) (index new low part : ℕ) (old : ℕ) (index_in : index < length bytes) (old_is : old ≡ get_or bytes index 0)
    (before : (k : ℕ) → k < low → bit_at new k ≡ bit_at old k) (after : (k : ℕ) → low + part ≤ k → bit_at new k ≡ bit_at old k) where
  pub other_byte : (place : ℕ) → (place / 8 ≡ index → ⊥) → bit_of (set bytes index new) place ≡ bit_of bytes place
  other_byte place other = ap (λ (w : ℕ). bit_at w (place % 8)) (get_or-set_other bytes index (place / 8) new 0 other)

  pub same_byte : (place : ℕ) → place / 8 ≡ index → bit_of (set bytes index new) place ≡ bit_at new (place % 8)
  same_byte place same = grind (arith, bit_at, get_or-set_same)

  same_old : (place : ℕ) → place / 8 ≡ index → bit_at old (place % 8) ≡ bit_of bytes place
  same_old place same = grind (arith, bit_at)

  pub stands_below : (place : ℕ) → place < 8 * index + low → bit_of (set bytes index new) place ≡ bit_of bytes place
  stands_below place h = grind (arith, same_byte, same_old, other_byte, cases_eq)

  pub stands_above : (place : ℕ) → 8 * index + (low + part) ≤ place → bit_of (set bytes index new) place ≡ bit_of bytes place
  stands_above place h = grind (arith, same_byte, same_old, other_byte, cases_eq)

  pub written : (k : ℕ) → low + k < 8 → bit_of (set bytes index new) (8 * index + (low + k)) ≡ bit_at new (low + k)
  written k h = grind (arith, same_byte, bit_at)

-- a bit of a part of a value
pub bit_of_part : (value done part k : ℕ) → k < part → bit_at (value / 2 ^ done % 2 ^ part) k ≡ bit_at value (done + k)
bit_of_part value done part k h = grind (arith, bit_at_mod, shr-shr)

-- the bits from `at` on are those of a value, and all others are the old ones
pub record IsPut (old new : List ℕ) (at n value : ℕ) : Type 0 where
  pub inside : (k : ℕ) → k < n → bit_of new (at + k) ≡ bit_at value k
  pub before : (k : ℕ) → k < at → bit_of new k ≡ bit_of old k
  pub after : (k : ℕ) → at + n ≤ k → bit_of new k ≡ bit_of old k

-- the step of the loop that writes
module _ (start bytes : List ℕ) (at done value : ℕ) (so_far : IsPut start bytes at done value)
    (index low part old new field : ℕ) (place : at + done ≡ 8 * index + low) (within : low + part ≤ 8) (index_in : index < length bytes)
    (old_is : old ≡ get_or bytes index 0) (field_is : field ≡ value / 2 ^ done % 2 ^ part)
    (inside : (k : ℕ) → k < part → bit_at new (low + k) ≡ bit_at field k)
    (before : (k : ℕ) → k < low → bit_at new k ≡ bit_at old k) (after : (k : ℕ) → low + part ≤ k → bit_at new k ≡ bit_at old k) where
  put_inside : (k : ℕ) → k < done + part → bit_of (set bytes index new) (at + k) ≡ bit_at value k
  put_inside k h =
      ⊎_elim (λ (l : k < done). stands_below bytes index new low part old index_in old_is before after (at + k) (omega arith) ∙ so_far.inside k l)
      (λ (l : done ≤ k).
      let there : at + k ≡ 8 * index + (low + (k - done)) = omega arith in
      let back : done + (k - done) ≡ k = omega arith in
      let here : bit_of (set bytes index new) (8 * index + (low + (k - done))) ≡ bit_at new (low + (k - done)) =
      written bytes index new low part old index_in old_is before after (k - done) (omega arith) in grind (arith, bit_at, bit_of_part))
      (cases_lt k done)

  pub put_more : IsPut start (set bytes index new) at (done + part) value
  put_more = record {
    inside = put_inside;
    before = λ k h. stands_below bytes index new low part old index_in old_is before after k (omega arith) ∙ so_far.before k h;
    after = λ k h. stands_above bytes index new low part old index_in old_is before after k (omega arith) ∙ so_far.after k (omega arith);
  }
