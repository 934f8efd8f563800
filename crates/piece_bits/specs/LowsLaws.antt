-- Numbers and their low bits.
use Rattle.std.specs.Prelude.{◌≡◌, ℕ, suc, ◌+◌, ◌-◌, ◌*◌, ◌/◌, ◌%◌, ◌^◌, ◌<◌, ◌≤◌, ℤ, pos, negsuc, FitsSigned}
use Rattle.piece_bits.specs.Imports.{of_z, w64, ap, ◌∙◌, ⊎_elim, arith, mul-le-mul_right, cases_lt, to_z-of_z, ints, mod_low, pow-add, pow_pos, number, digit, number_bits, number_complement}
use Rattle.piece_bits.specs.Lows.{low_64, IsWithin64}

-- the low bits of a number of 64 bits with a sign are its own
pub low_same : (z : ℤ) → FitsSigned w64 z → low_64 z ≡ z
low_same z fits = to_z-of_z w64 z fits

-- what is left of a whole power, by a smaller one
opposite : (n width more : ℕ) → n < 2 ^ (more + width) → (2 ^ (more + width) - suc n) % 2 ^ width ≡ 2 ^ width - 1 - n % 2 ^ width
opposite n width more small =
    let size : ℕ = 2 ^ width in
    let some : 0 < size = pow_pos width in
    let whole : 2 ^ (more + width) ≡ 2 ^ more * size = pow-add 2 more width in
    let parts : n ≡ n / size * size + n % size = omega (arith, some) in
    let below : n / size < 2 ^ more =
    ⊎_elim (λ (l : n / size < 2 ^ more). l) (λ (past : 2 ^ more ≤ n / size). absurd (omega (arith, mul-le-mul_right size past, parts, whole, small))) (cases_lt (n / size) (2 ^ more)) in
    let rest : ℕ = 2 ^ more - n / size - 1 in
    let all : 2 ^ more ≡ n / size + 1 + rest = omega (arith, below) in
    let sum : (n / size + 1 + rest) * size ≡ n / size * size + size + rest * size = grind arith in
    let low : n % size < size = omega (arith, some) in
    let left : 2 ^ (more + width) - suc n ≡ rest * size + (size - 1 - n % size) = omega (arith, whole, ap (λ (m : ℕ). m * size) all, sum, parts, low) in
    ap (λ (m : ℕ). m % size) left ∙ mod_low rest width (size - 1 - n % size) (omega (arith, some))

-- so many low bits of a number, by its own digits
pub code_low : (z : ℤ) (width : ℕ) → width ≤ 64 → IsWithin64 z → number (digit z) width ≡ of_z w64 z % 2 ^ width
code_low (pos n) width narrow within = number_bits n width
code_low (negsuc n) width narrow within =
    let f : ℕ → ℕ = λ k. (n / 2 ^ k) % 2 in
    let both : number f width + number (λ k. 1 - f k) width + 1 ≡ 2 ^ width = number_complement f width (λ k l. omega arith) in
    let own : number f width ≡ n % 2 ^ width = number_bits n width in
    let small : n < 2 ^ 64 = omega (arith, ints, within.0) in
    let whole : 64 ≡ (64 - width) + width = omega (arith, narrow) in
    let there : 2 ^ 64 ≡ 2 ^ ((64 - width) + width) = ap (λ (m : ℕ). 2 ^ m) whole in
    let rest = opposite n width (64 - width) (omega (arith, small, there)) in
    let same : (2 ^ 64 - suc n) % 2 ^ width ≡ (2 ^ ((64 - width) + width) - suc n) % 2 ^ width = ap (λ (m : ℕ). (m - suc n) % 2 ^ width) there in
    omega (arith, both, own, rest, same)
