-- Some bytes as one number, the least significant first or last.
use Rattle.blobs.proofs.Imports.{◌≡◌, ℕ, zero, suc, ◌+◌, ◌*◌, ◌-◌, ◌/◌, ◌%◌, ◌^◌, ◌<◌, ◌≤◌, List, length, get_or, mod-eq_of_lt, refl, sym, ap, ◌∙◌, subst, ⊎_elim, arith, bit_at, cases_lt, pow-add, bit_at-lt, bit_at_above, bit_at_cat_low, bit_at_cat_high, pow-suc, little_from, number, number_same, number_bits, number_lt, bit_number, bit_of, AreBytes, turned_from, turned_place, bit_of_byte, past_end}

-- a bit of a byte and of the number above it
low_bit : (byte above k : ℕ) → k < 8 → bit_at (byte + 256 * above) k ≡ bit_at byte k
low_bit byte above k h =
    let same : byte + 256 * above ≡ above * 2 ^ 8 + byte = omega arith in
    ap (λ (w : ℕ). bit_at w k) same ∙ bit_at_cat_low above 8 byte k h

high_bit : (byte above k : ℕ) → byte < 256 → 8 ≤ k → bit_at (byte + 256 * above) k ≡ bit_at above (k - 8)
high_bit byte above k fits h =
    let same : byte + 256 * above ≡ above * 2 ^ 8 + byte = omega arith in
    ap (λ (w : ℕ). bit_at w k) same ∙ bit_at_cat_high above 8 byte k fits h

-- bit k of the number in n bytes is bit k % 8 of byte k / 8 of them
bits_of_bytes : (xs : List ℕ) (i n k : ℕ) → AreBytes xs → k < 8 * n → bit_at (little_from i n xs) k ≡ bit_at (get_or xs (i + k / 8) 0) (k % 8)
bits_of_bytes xs i zero k fits h = absurd (omega arith)
bits_of_bytes xs i (suc n) k fits h =
    let byte : ℕ = get_or xs i 0 in
    ⊎_elim
    (λ (l : k < 8). grind (arith, low_bit, little_from, bit_at))
    (λ (l : 8 ≤ k). grind (arith, high_bit, little_from, bit_at, (bits_of_bytes xs (suc i) n (k - 8) fits (omega arith))))
    (cases_lt k 8)

-- in reverse order it is that of the byte that stands k / 8 before the last
bits_of_turned : (xs : List ℕ) (i n k : ℕ) → AreBytes xs → k < 8 * n → bit_at (turned_from i n xs) k ≡ bit_at (get_or xs (i + (n - 1 - k / 8)) 0) (k % 8)
bits_of_turned xs i zero k fits h = absurd (omega arith)
bits_of_turned xs i (suc n) k fits h =
    let byte : ℕ = get_or xs (i + n) 0 in
    ⊎_elim
    (λ (l : k < 8). grind (arith, low_bit, bit_at))
    (λ (l : 8 ≤ k). grind (arith, high_bit, bit_at, (bits_of_turned xs i n (k - 8) fits (omega arith))))
    (cases_lt k 8)

-- the number in n bytes is below 256^n
little_small : (xs : List ℕ) (i n : ℕ) → AreBytes xs → little_from i n xs < 256 ^ n
little_small xs i zero fits = omega arith
little_small xs i (suc n) fits = omega (arith, fits i, little_small xs (suc i) n fits, pow-suc 256 n)

turned_small : (xs : List ℕ) (i n : ℕ) → AreBytes xs → turned_from i n xs < 256 ^ n
turned_small xs i zero fits = omega arith
turned_small xs i (suc n) fits = omega (arith, fits (i + n), turned_small xs i n fits, pow-suc 256 n)

-- powers of 256
pub bytes_power : (m : ℕ) → 256 ^ m ≡ 2 ^ (8 * m)
bytes_power zero = refl
bytes_power (suc m) =
    let size : 8 * suc m ≡ 8 * m + 8 = omega arith in
    let power : 2 ^ (8 * m + 8) ≡ 2 ^ (8 * m) * 2 ^ 8 = pow-add 2 (8 * m) 8 in
    pow-suc 256 m ∙ ap (λ (w : ℕ). w * 256) (bytes_power m) ∙ sym (ap (λ (w : ℕ). 2 ^ w) size ∙ power)

-- a number of n bits is that of its bits
number_of : (word m n : ℕ) (bits : ℕ → ℕ) → n ≡ 8 * m → word < 256 ^ m → ((k : ℕ) → k < n → bit_at word k ≡ bits k) → word ≡ number bits n
number_of word m n bits size small same =
    let power : 256 ^ m ≡ 2 ^ n = bytes_power m ∙ ap (λ (w : ℕ). 2 ^ w) (sym size) in
    let fits : word < 2 ^ n = subst (λ (w : ℕ). word < w) power small in
    sym (mod-eq_of_lt fits) ∙ sym (number_bits word n) ∙ number_same (λ k. (word / 2 ^ k) % 2) bits n same

-- a number that is read off m bytes is that of their bits
pub whole_read : (bytes : List ℕ) (at m n word : ℕ) → n ≡ 8 * m → AreBytes bytes → word ≡ little_from at m bytes → word ≡ number (λ k. bit_of bytes (8 * at + k)) n
whole_read bytes at m n word size fits is =
    is ∙ number_of (little_from at m bytes) m n (λ k. bit_of bytes (8 * at + k)) size (little_small bytes at m fits)
    (λ k h. bits_of_bytes bytes at m k fits (omega arith) ∙ sym (bit_of_byte bytes (8 * at + k) (at + k / 8) (k % 8) (omega arith) (omega arith)))

pub turned_read : (bytes : List ℕ) (at m n word : ℕ) → n ≡ 8 * m → AreBytes bytes → word ≡ turned_from at m bytes
    → word ≡ number (λ k. bit_of bytes (8 * at + turned_place n k)) n
turned_read bytes at m n word size fits is =
    is ∙ number_of (turned_from at m bytes) m n (λ k. bit_of bytes (8 * at + turned_place n k)) size (turned_small bytes at m fits)
    (λ k h. grind (arith, bits_of_turned, bit_of_byte))

-- a bit of it
pub word_bit : (bytes : List ℕ) (at word k : ℕ) → AreBytes bytes → word ≡ little_from at 8 bytes → k < 64 → bit_at word k ≡ bit_of bytes (8 * at + k)
word_bit bytes at word k fits is h =
    ap (λ (w : ℕ). bit_at w k) is ∙ bits_of_bytes bytes at 8 k fits h ∙ sym (bit_of_byte bytes (8 * at + k) (at + k / 8) (k % 8) (omega arith) (omega arith))

-- fewer than eight bytes before the end, as a number
pub last_bit : (bytes : List ℕ) (at n word k : ℕ) → 8 * at + n ≡ 8 * length bytes → word ≡ number (λ k. bit_of bytes (8 * at + k)) n → bit_at word k ≡ bit_of bytes (8 * at + k)
last_bit bytes at n word k end is = grind (arith, bit_at-lt, number_lt, bit_at, bit_number, bit_at_above, past_end, cases_lt)
