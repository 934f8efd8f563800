-- Numbers below 2^n and their n binary digits, and values of a sign and a width and theirs.
use Rattle.std.specs.Prelude.{◌≡◌, ℕ, zero, suc, ◌+◌, ◌*◌, ◌-◌, ◌/◌, ◌%◌, ◌^◌, ◌<◌, ◌≤◌, Bool, true, false, ℤ, pos, negsuc, ◌-ℤ◌, refl}
use Rattle.record_dim.specs.Std.{⊎_elim, sym, ap, ◌∙◌, arith, pow_pos, pow-add, shr-shr, le-div, mod-pow-add, ones_shr, mod-eq_of_lt, div-eq_of_lt, ints, cases_lt, cond-true, cond-false, eq-eqb, ne_eqb}
use Rattle.record_dim.specs.Prelude.{IsIn}
use Rattle.places.specs.Image.{number, digit, decoded}

-- only the digits below the width count
pub number_same : (f g : ℕ → ℕ) (n : ℕ) → ((k : ℕ) → k < n → f k ≡ g k) → number f n ≡ number g n
number_same f g zero same = refl
number_same f g (suc n) same =
    let rest : number (λ k. f (k + 1)) n ≡ number (λ k. g (k + 1)) n =
    number_same (λ k. f (k + 1)) (λ k. g (k + 1)) n (λ k l. same (k + 1) (omega arith)) in
    omega arith

pub pow_next : (n : ℕ) → 2 ^ (n + 1) ≡ 2 * 2 ^ n
pow_next n = let e : 2 ^ (n + 1) ≡ 2 ^ n * 2 ^ 1 = pow-add 2 n 1 in omega arith

-- the digits from m on have the weight 2^m
pub number_split : (f : ℕ → ℕ) (m n : ℕ) → number f (m + n) ≡ number f m + 2 ^ m * number (λ k. f (m + k)) n
number_split f zero n = grind (arith, number_same)
number_split f (suc m) n =
    let size : suc m + n ≡ suc (m + n) = omega arith in
    let whole : number f (suc m + n) ≡ number f (suc (m + n)) = ap (λ (w : ℕ). number f w) size in
    let rest : number (λ k. f (k + 1)) (m + n) ≡ number (λ k. f (k + 1)) m + 2 ^ m * number (λ k. f (m + k + 1)) n =
    number_split (λ k. f (k + 1)) m n in
    let same : number (λ k. f (m + k + 1)) n ≡ number (λ k. f (suc m + k)) n =
    number_same (λ k. f (m + k + 1)) (λ k. f (suc m + k)) n (λ k l. ap f (let e : m + k + 1 ≡ suc m + k = omega arith in e)) in
    let high : ℕ = number (λ k. f (suc m + k)) n in
    let moved : 2 ^ m * number (λ k. f (m + k + 1)) n ≡ 2 ^ m * high = ap (λ (w : ℕ). 2 ^ m * w) same in
    let power : 2 ^ suc m * high ≡ 2 * 2 ^ m * high = ap (λ (w : ℕ). w * high) (ap (λ (w : ℕ). 2 ^ w) (let e : suc m ≡ m + 1 = omega arith in e) ∙ pow_next m) in
    omega arith

-- digits make a number of their width
pub number_lt : (f : ℕ → ℕ) (n : ℕ) → ((k : ℕ) → k < n → f k < 2) → number f n < 2 ^ n
number_lt f zero small = omega arith
number_lt f (suc n) small =
    let rest : number (λ k. f (k + 1)) n < 2 ^ n = number_lt (λ k. f (k + 1)) n (λ k l. small (k + 1) (omega arith)) in
    omega arith

halves : (v k : ℕ) → v / 2 ^ (k + 1) ≡ v / 2 / 2 ^ k
halves v k = ap (λ (w : ℕ). v / 2 ^ w) (omega arith) ∙ sym (shr-shr v 1 k)

-- the number of a number's own digits
pub number_bits : (v n : ℕ) → number (λ k. (v / 2 ^ k) % 2) n ≡ v % 2 ^ n
number_bits v zero = omega arith
number_bits v (suc n) =
    let rest : number (λ k. (v / 2 / 2 ^ k) % 2) n ≡ (v / 2) % 2 ^ n = number_bits (v / 2) n in
    let same : number (λ k. (v / 2 ^ (k + 1)) % 2) n ≡ number (λ k. (v / 2 / 2 ^ k) % 2) n =
    number_same (λ k. (v / 2 ^ (k + 1)) % 2) (λ k. (v / 2 / 2 ^ k) % 2) n (λ k l. ap (λ (w : ℕ). w % 2) (halves v k)) in
    let split : v % 2 ^ (n + 1) ≡ (v / 2 ^ 1 % 2 ^ n) * 2 ^ 1 + v % 2 ^ 1 = mod-pow-add v n 1 in
    let turned : v % 2 ^ suc n ≡ v % 2 ^ (n + 1) = ap (λ (w : ℕ). v % 2 ^ w) (omega arith) in
    omega arith

-- digit k of the number that digits make
pub bit_number : (f : ℕ → ℕ) (n k : ℕ) → ((j : ℕ) → j < n → f j < 2) → k < n → (number f n / 2 ^ k) % 2 ≡ f k
bit_number f zero k small inside = absurd (omega arith)
bit_number f (suc n) zero small inside = grind arith
bit_number f (suc n) (suc k) small inside =
    let high : ℕ = number (λ k. f (k + 1)) n in
    let rest : (high / 2 ^ k) % 2 ≡ f (k + 1) =
    bit_number (λ k. f (k + 1)) n k (λ j l. small (j + 1) (omega arith)) (omega arith) in
    let power : (f 0 + 2 * high) / 2 ^ suc k ≡ (f 0 + 2 * high) / 2 / 2 ^ k =
    ap (λ (w : ℕ). (f 0 + 2 * high) / 2 ^ w) (omega arith) ∙ halves (f 0 + 2 * high) k in
    ap (λ (w : ℕ). w % 2) (power ∙ (ap (λ (w : ℕ). w / 2 ^ k) (omega arith))) ∙ rest ∙ ap f (omega arith)

-- the digits of the complement
pub number_complement : (f : ℕ → ℕ) (n : ℕ) → ((k : ℕ) → k < n → f k < 2) → number f n + number (λ k. 1 - f k) n + 1 ≡ 2 ^ n
number_complement f zero small = omega arith
number_complement f (suc n) small =
    let rest : number (λ k. f (k + 1)) n + number (λ k. 1 - f (k + 1)) n + 1 ≡ 2 ^ n =
    number_complement (λ k. f (k + 1)) n (λ k l. small (k + 1) (omega arith)) in
    omega arith

pub digit_lt : (v : ℤ) (k : ℕ) → digit v k < 2
digit_lt v k = grind arith

-- the digits of a number that is not negative
pub number_pos : (n width : ℕ) → n < 2 ^ width → number (digit (pos n)) width ≡ n
number_pos n width small = grind (arith, number_bits, mod-eq_of_lt)

-- the digits of a negative number
pub number_negsuc : (n width : ℕ) → n < 2 ^ width → number (digit (negsuc n)) width + n + 1 ≡ 2 ^ width
number_negsuc n width small =
    let own : number (λ k. (n / 2 ^ k) % 2) width ≡ n = number_pos n width small in
    let both : number (λ k. (n / 2 ^ k) % 2) width + number (λ k. 1 - (n / 2 ^ k) % 2) width + 1 ≡ 2 ^ width =
    number_complement (λ k. (n / 2 ^ k) % 2) width (λ k l. omega arith) in
    omega arith

-- n ones
pub ones_of : (n : ℕ) → n ≤ 64 → 18446744073709551615 / 2 ^ (64 - n) ≡ 2 ^ n - 1
ones_of n few = (ones_shr 64 (64 - n) (omega arith)) ∙ ap (λ (w : ℕ). 2 ^ w - 1) (omega arith)

pub half_of : (width : ℕ) → 1 ≤ width → 2 ^ width ≡ 2 * 2 ^ (width - 1)
half_of width some = ap (λ (w : ℕ). 2 ^ w) (omega arith) ∙ pow_next (width - 1)

-- what `width` bits say where the top bit is 0, and where it is 1
pub decoded_low : (width n : ℕ) → n < 2 ^ (width - 1) → decoded true width n ≡ pos n
decoded_low width n low = grind (arith, div-eq_of_lt, cond-true, eq-eqb)

pub decoded_high : (width n : ℕ) → 2 ^ (width - 1) ≤ n → decoded true width n ≡ pos n -ℤ pos (2 ^ width)
decoded_high width n high = grind (arith, pow_pos, le-div, cond-false, ne_eqb)

-- a value in the range of a sign and a width is read back from its digits
pub decoded_digits : (signed : Bool) (width : ℕ) (v : ℤ) → 1 ≤ width → IsIn signed width v → decoded signed width (number (digit v) width) ≡ v
decoded_digits signed width v some inside = grind (arith, pow_pos, number_pos, half_of, decoded_low, number_negsuc, decoded_high)

-- the digits of what bits say are these bits
pub bit_digits : (signed : Bool) (width n k : ℕ) → n < 2 ^ width → k < width → digit (decoded signed width n) k ≡ (n / 2 ^ k) % 2
bit_digits false width n k small inside = refl
bit_digits true width n k small inside =
    ⊎_elim
    (λ (low : n < 2 ^ (width - 1)). ap (λ (v : ℤ). digit v k) (decoded_low width n low))
    (λ (high : 2 ^ (width - 1) ≤ n).
    let rest : ℕ = 2 ^ width - 1 - n in
    let value : pos n -ℤ pos (2 ^ width) ≡ negsuc rest = omega (arith, ints) in
    let own : number (λ j. (n / 2 ^ j) % 2) width ≡ n = number_pos n width small in
    let both : number (λ j. (n / 2 ^ j) % 2) width + number (λ j. 1 - (n / 2 ^ j) % 2) width + 1 ≡ 2 ^ width =
    number_complement (λ j. (n / 2 ^ j) % 2) width (λ j l. omega arith) in
    let turned : rest ≡ number (λ j. 1 - (n / 2 ^ j) % 2) width = omega arith in
    let bit : (number (λ j. 1 - (n / 2 ^ j) % 2) width / 2 ^ k) % 2 ≡ 1 - (n / 2 ^ k) % 2 =
    bit_number (λ j. 1 - (n / 2 ^ j) % 2) width k (λ j l. omega arith) inside in
    let same : (rest / 2 ^ k) % 2 ≡ 1 - (n / 2 ^ k) % 2 = ap (λ (w : ℕ). (w / 2 ^ k) % 2) turned ∙ bit in
    let back : 1 - (rest / 2 ^ k) % 2 ≡ (n / 2 ^ k) % 2 = omega arith in
    ap (λ (v : ℤ). digit v k) (decoded_high width n high ∙ value) ∙ back)
    (cases_lt n (2 ^ (width - 1)))

-- what bits say lies in the range of the sign and the width
pub decoded_in : (signed : Bool) (width n : ℕ) → 1 ≤ width → n < 2 ^ width → IsIn signed width (decoded signed width n)
decoded_in signed width n some small = grind (arith, pow_pos, half_of, decoded_low, decoded_high, cases_lt)
