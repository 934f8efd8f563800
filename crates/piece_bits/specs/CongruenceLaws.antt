-- The kept number in the words of congruence: it lies in the range, and differs from the value by a multiple of the number of values.
use Rattle.std.specs.Prelude.{◌≡◌, ℕ, ◌+◌, ◌*◌, ◌-◌, ◌/◌, ◌%◌, ◌^◌, ◌<◌, ◌≤◌, Bool, true, false, ℤ, pos, negsuc, ◌+ℤ◌, ◌-ℤ◌, ◌≤ℤ◌}
use Rattle.piece_bits.specs.Imports.{⊎_elim, ap, arith, ints, pow_pos, cases_lt, mul-le-mul_right, IsIn, number, digit, decoded, number_bits, number_complement, decoded_low, decoded_high, half_of}
use Rattle.piece_bits.specs.LowBits.{low_bits}
use Rattle.piece_bits.specs.Congruence.{AreCongruent}

-- the digits of a number, as a remainder
digits_pos : (n width : ℕ) → number (digit (pos n)) width ≡ n % 2 ^ width
digits_pos n width = number_bits n width

pub digits_negsuc : (n width : ℕ) → number (digit (negsuc n)) width + n % 2 ^ width + 1 ≡ 2 ^ width
digits_negsuc n width =
    let both : number (λ k. (n / 2 ^ k) % 2) width + number (λ k. 1 - (n / 2 ^ k) % 2) width + 1 ≡ 2 ^ width =
    number_complement (λ k. (n / 2 ^ k) % 2) width (λ k l. omega arith) in
    let own : number (λ k. (n / 2 ^ k) % 2) width ≡ n % 2 ^ width = number_bits n width in
    omega arith

whole : (n m : ℕ) → n ≡ n / m * m + n % m
whole n m = omega arith

next_times : (q m : ℕ) → (q + 1) * m ≡ q * m + m
next_times q m = omega arith

number_congruent : (value : ℤ) (width : ℕ) → AreCongruent (2 ^ width) value (pos (number (digit value) width))
number_congruent (pos n) width =
    let m : ℕ = 2 ^ width in
    let cut : number (digit (pos n)) width ≡ n % m = digits_pos n width in
    let parts : n ≡ n / m * m + n % m = whole n m in
    record { one = 0; other = n / m; same = omega (arith, ints) }
number_congruent (negsuc n) width =
    let m : ℕ = 2 ^ width in
    let cut : number (digit (negsuc n)) width + n % m + 1 ≡ m = digits_negsuc n width in
    let parts : n ≡ n / m * m + n % m = whole n m in
    let next : (n / m + 1) * m ≡ n / m * m + m = next_times (n / m) m in
    record { one = n / m + 1; other = 0; same = omega (arith, ints) }

decoded_congruent : (signed : Bool) (width n : ℕ) → AreCongruent (2 ^ width) (pos n) (decoded signed width n)
decoded_congruent signed width n = grind (arith, decoded_low, decoded_high, cases_lt)

congruent-then : (m : ℕ) (a b c : ℤ) → AreCongruent m a b → AreCongruent m b c → AreCongruent m a c
congruent-then m a b c first second =
    record { one = first.one + second.one; other = second.other + first.other; same = omega (arith, ints, first.same, second.same) }

-- low bits are congruent to the value
pub low_congruent : (signed : Bool) (width : ℕ) (value : ℤ) → AreCongruent (2 ^ width) value (low_bits signed width value)
low_congruent signed width value =
    congruent-then (2 ^ width) value (pos (number (digit value) width)) (low_bits signed width value)
    (number_congruent value width) (decoded_congruent signed width (number (digit value) width))

-- and no other number of the range is
spread : (signed : Bool) (width : ℕ) (a b : ℤ) → 1 ≤ width → IsIn signed width a → IsIn signed width b → ((a -ℤ b) +ℤ pos 1) ≤ℤ pos (2 ^ width)
spread false width a b some in_a in_b = omega (arith, ints, in_a.1, in_b.0)
spread true width a b some in_a in_b = omega (arith, ints, in_a.1, in_b.0, half_of width some, pow_pos (width - 1))

more_times : (p q m : ℕ) → p < q → p * m + m ≤ q * m
more_times p q m less = grind (arith, mul-le-mul_right, next_times)

pub congruent_same : (signed : Bool) (width : ℕ) (a b : ℤ) → 1 ≤ width → IsIn signed width a → IsIn signed width b → AreCongruent (2 ^ width) a b → a ≡ b
congruent_same signed width a b some in_a in_b near =
    let m : ℕ = 2 ^ width in
    let up : ((a -ℤ b) +ℤ pos 1) ≤ℤ pos m = spread signed width a b some in_a in_b in
    let down : ((b -ℤ a) +ℤ pos 1) ≤ℤ pos m = spread signed width b a some in_b in_a in
    ⊎_elim (λ (less : near.one < near.other). absurd (omega (arith, ints, near.same, up, down, more_times near.one near.other m less)))
    (λ (most : near.other ≤ near.one).
    ⊎_elim (λ (fewer : near.other < near.one). absurd (omega (arith, ints, near.same, up, down, more_times near.other near.one m fewer)))
    (λ (least : near.one ≤ near.other).
    let even : near.one * m ≡ near.other * m = ap (λ (k : ℕ). k * m) (let e : near.one ≡ near.other = omega (arith, most, least) in e) in
    omega (arith, ints, near.same, even))
    (cases_lt near.other near.one))
    (cases_lt near.one near.other)
