-- Some bytes in the place of others, which are those of a number.
use Rattle.blobs.proofs.Imports.{◌≡◌, ℕ, zero, suc, ◌+◌, ◌*◌, ◌-◌, ◌/◌, ◌%◌, ◌^◌, ◌<◌, ◌≤◌, List, length, get_or, take, drop, refl, sym, ap, ◌∙◌, subst, arith, bit_at, byte_at, bytes_low_first, bytes_high_first, get_or-drop, get_or-take, get_or_append_left, get_or-append_right, length-append, length-take, length-drop, div-one, bit_of, turned_place, bit_of_byte, bit_of_part, IsPut, ◌++◌}
use Rattle.blobs.proofs.Numbers.{bytes_power}

-- byte j of the bytes of a number, the least significant first
byte_of : (i n j word : ℕ) → j < n → get_or (bytes_low_first i n word) j 0 ≡ byte_at (i + j) word
byte_of i zero j word h = absurd (omega arith)
byte_of i (suc n) zero word h = ap (λ (w : ℕ). byte_at w word) (let e : i ≡ i + 0 = omega arith in e)
byte_of i (suc n) (suc j) word h = grind (arith, (byte_of (suc i) n j word (omega arith)))

byte_power : (j word : ℕ) → byte_at j word ≡ word / 256 ^ j % 256
byte_power j word = grind (arith, div-one)

-- a bit of byte j
bit_of_byte_at : (word j k : ℕ) → k < 8 → bit_at (byte_at j word) k ≡ bit_at word (8 * j + k)
bit_of_byte_at word j k h =
    ap (λ (w : ℕ). bit_at w k) (byte_power j word ∙ ap (λ (w : ℕ). word / w % 256) (bytes_power j))
    ∙ bit_of_part word (8 * j) 8 k h

length-bytes : (i n word : ℕ) → length (bytes_low_first i n word) ≡ n
length-bytes i zero word = refl
length-bytes i (suc n) word = let rest = length-bytes (suc i) n word in omega (arith, rest)

-- the same of the bytes in reverse order
byte_of_turned : (n j word : ℕ) → j < n → get_or (bytes_high_first n word) j 0 ≡ byte_at (n - 1 - j) word
byte_of_turned zero j word h = absurd (omega arith)
byte_of_turned (suc n) zero word h = ap (λ (w : ℕ). byte_at w word) (let e : n ≡ suc n - 1 - 0 = omega arith in e)
byte_of_turned (suc n) (suc j) word h = grind (arith, (byte_of_turned n j word (omega arith)))

length-turned : (n word : ℕ) → length (bytes_high_first n word) ≡ n
length-turned zero word = refl
length-turned (suc n) word = let rest = length-turned n word in omega (arith, rest)

-- some bytes in the place of as many others
abbrev pub splice : List ℕ → ℕ → ℕ → List ℕ → List ℕ
splice old at n bytes = take at old ++ (bytes ++ drop (at + n) old)

module _ (old bytes : List ℕ) (at n : ℕ) (within : at + n ≤ length old) (long : length bytes ≡ n) where
  front_long : length (take at old) ≡ at
  front_long = omega (arith, length-take at old)

  splice_before : (k : ℕ) → k < 8 * at → bit_of (splice old at n bytes) k ≡ bit_of old k
  splice_before k h = grind (arith, bit_at, get_or_append_left, front_long, get_or-take)

  behind_front : (index : ℕ) → at ≤ index → get_or (splice old at n bytes) index 0 ≡ get_or (bytes ++ drop (at + n) old) (index - at) 0
  behind_front index h = get_or-append_right (take at old) (bytes ++ drop (at + n) old) at index 0 front_long h

  -- a bit of byte `index` of them
  splice_inside : (place index low : ℕ) → place ≡ 8 * (at + index) + low → index < n → low < 8 → bit_of (splice old at n bytes) place ≡ bit_at (get_or bytes index 0) low
  splice_inside place index low is h l = grind (arith, bit_of_byte, bit_at, behind_front, get_or_append_left)

  splice_after : (k : ℕ) → 8 * at + 8 * n ≤ k → bit_of (splice old at n bytes) k ≡ bit_of old k
  splice_after k h = grind (arith, bit_at, behind_front, get_or-append_right, get_or-drop)

-- a number that is written to m bytes
pub whole_put : (old new : List ℕ) (at m n word : ℕ) → n ≡ 8 * m → at + m ≤ length old → new ≡ splice old at m (bytes_low_first 0 m word) → IsPut old new (8 * at) n word
whole_put old new at m n word size within is =
    let bytes : List ℕ = bytes_low_first 0 m word in
    let long : length (bytes_low_first 0 m word) ≡ m = length-bytes 0 m word in
    subst (λ (w : List ℕ). IsPut old w (8 * at) n word) (sym is) (record {
      inside = λ k h.
          splice_inside old bytes at m within long (8 * at + k) (k / 8) (k % 8) (omega arith) (omega arith) (omega arith)
          ∙ ap (λ (w : ℕ). bit_at w (k % 8)) (byte_of 0 m (k / 8) word (omega arith))
          ∙ bit_of_byte_at word (0 + k / 8) (k % 8) (omega arith)
          ∙ ap (bit_at word) (let e : 8 * (0 + k / 8) + k % 8 ≡ k = omega arith in e);
      before = λ k h. splice_before old bytes at m within long k h;
      after = λ k h. splice_after old bytes at m within long k (omega arith);
    })

-- the bits of so many bytes in reverse order are those of a value, and all others are the old ones
pub record IsTurnedPut (old new : List ℕ) (at n value : ℕ) : Type 0 where
  pub inside : (k : ℕ) → k < n → bit_of new (8 * at + turned_place n k) ≡ bit_at value k
  pub before : (k : ℕ) → k < 8 * at → bit_of new k ≡ bit_of old k
  pub after : (k : ℕ) → 8 * at + n ≤ k → bit_of new k ≡ bit_of old k

pub turned_put : (old new : List ℕ) (at m n word : ℕ) → n ≡ 8 * m → at + m ≤ length old → new ≡ splice old at m (bytes_high_first m word) → IsTurnedPut old new at n word
turned_put old new at m n word size within is =
    let bytes : List ℕ = bytes_high_first m word in
    let long : length (bytes_high_first m word) ≡ m = length-turned m word in
    subst (λ (w : List ℕ). IsTurnedPut old w at n word) (sym is) (record {
      inside = λ k h.
          splice_inside old bytes at m within long (8 * at + turned_place n k) (m - 1 - k / 8) (k % 8) (omega arith) (omega arith) (omega arith)
          ∙ ap (λ (w : ℕ). bit_at w (k % 8)) (byte_of_turned m (m - 1 - k / 8) word (omega arith))
          ∙ bit_of_byte_at word (m - 1 - (m - 1 - k / 8)) (k % 8) (omega arith)
          ∙ ap (bit_at word) (let e : 8 * (m - 1 - (m - 1 - k / 8)) + k % 8 ≡ k = omega arith in e);
      before = λ k h. splice_before old bytes at m within long k h;
      after = λ k h. splice_after old bytes at m within long k (omega arith);
    })

pub whole_long : (old new : List ℕ) (at m word : ℕ) → at + m ≤ length old → new ≡ splice old at m (bytes_low_first 0 m word) → length new ≡ length old
whole_long old new at m word within is = grind (arith, bytes_low_first, length-append, length-take, length-drop, length-bytes)
