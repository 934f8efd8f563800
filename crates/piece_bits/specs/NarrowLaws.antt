-- Products and sums of numbers of at most 32 bits fit 64 bits with a sign.
use Rattle.std.specs.Prelude.{ℕ, ◌+◌, ◌*◌, ◌-◌, ◌≤◌, ◌^◌, List, [], ◌∷◌, length, fold, ℤ, pos, neg_ℤ, ◌+ℤ◌, ◌*ℤ◌, ◌≤ℤ◌, FitsSigned, unsigned_abs}
use Rattle.piece_bits.specs.Imports.{w64, subst, arith, mul-le-mul, ints, unsigned_abs-mul, fits_signed_from_abs, Each2-of, Each1}
use Rattle.piece_bits.specs.Blocks.{IsFactor, IsNarrow}
use Rattle.piece_bits.specs.NumberTypes.{ProductsFit}

least_of_size : (z : ℤ) (n : ℕ) → unsigned_abs z ≤ n → neg_ℤ (pos n) ≤ℤ z
least_of_size z n few = grind arith

-- a product of a factor and a narrow number: its size, and how far it is above 0
product_size : (a x : ℤ) → IsFactor a → IsNarrow x → unsigned_abs (a *ℤ x) ≤ 2 ^ 31 * (2 ^ 32 - 1)
product_size a x factor value = grind (arith, unsigned_abs, mul-le-mul, unsigned_abs-mul)

above_zero : (a x : ℤ) → IsFactor a → IsNarrow x → (a *ℤ x) ≤ℤ pos ((2 ^ 31 - 1) * (2 ^ 32 - 1))
above_zero a x factor value = grind (arith, mul-le-mul)

product_fits : (a x : ℤ) → IsFactor a → IsNarrow x → FitsSigned w64 (a *ℤ x)
product_fits a x factor value = fits_signed_from_abs w64 (a *ℤ x) (omega (arith, product_size a x factor value))

fits_between : (z : ℤ) → neg_ℤ (pos (2 ^ 63)) ≤ℤ z → z ≤ℤ pos (2 ^ 63 - 1) → FitsSigned w64 z
fits_between z least greatest = grind arith

sum_fits : (a x y : ℤ) → IsFactor a → IsNarrow x → IsNarrow y → FitsSigned w64 (a *ℤ x +ℤ y)
sum_fits a x y factor value added =
    let least = least_of_size (a *ℤ x) (2 ^ 31 * (2 ^ 32 - 1)) (product_size a x factor value) in
    fits_between (a *ℤ x +ℤ y) (omega (arith, ints, least, added.0)) (omega (arith, ints, (above_zero a x factor value), added.1))

-- those of each two that stand beside each other
pub products_fit : (a : ℤ) (xs ys : List ℤ) → IsFactor a → Each1 IsNarrow xs → Each1 IsNarrow ys → ProductsFit (λ z. z) (λ z. FitsSigned w64 z) a xs ys
products_fit a xs ys factor narrow added = grind (arith, Each2-of, product_fits, sum_fits)

-- a number that some narrow ones can sum to, and the sum of more of them
record IsSumOf (count : ℕ) (sum : ℤ) : Type 0 where
  pub least : neg_ℤ (pos (count * 2 ^ 32)) ≤ℤ sum
  pub greatest : sum ≤ℤ pos (count * 2 ^ 32)

sum_of : (count : ℕ) (sum : ℤ) (xs : List ℤ) → IsSumOf count sum → Each1 IsNarrow xs → IsSumOf (count + length xs) (fold (λ s x. s +ℤ x) sum xs)
sum_of count sum [] a narrow = subst (λ (n : ℕ). IsSumOf n sum) (omega arith) a
sum_of count sum (x ∷ xs) a narrow =
    subst (λ (n : ℕ). IsSumOf n (fold (λ s x. s +ℤ x) (sum +ℤ x) xs)) (omega arith)
    (sum_of (count + 1) (sum +ℤ x) xs (record { least = omega (arith, ints, a.least, narrow.0.0); greatest = omega (arith, ints, a.greatest, narrow.0.1) }) narrow.1)

pub narrow_sum_fits : (xs : List ℤ) → length xs ≤ 2 ^ 30 → Each1 IsNarrow xs → FitsSigned w64 (fold (λ s x. s +ℤ x) (pos 0) xs)
narrow_sum_fits xs few narrow =
    let all = sum_of 0 (pos 0) xs (record { least = omega (arith, ints); greatest = omega (arith, ints) }) narrow in
    fits_between (fold (λ s x. s +ℤ x) (pos 0) xs) (omega (arith, ints, all.least)) (omega (arith, ints, all.greatest))
