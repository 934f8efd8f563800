-- Rows of a line: by columns their slots lie as many apart as there are lines, in Morton order as those of a first line do.
use Rattle.std.proofs.Common.{◌≡◌, ℕ, ◌+◌, ◌-◌, ◌*◌, ◌/◌, ◌%◌, ◌^◌, ◌<◌, ◌≤◌, [], ◌∷◌, get_or, min, max, sym, ap, subst, ◌∙◌, ⊎_elim, arith}
use Rattle.std.specs.Prelude.{bit_and, bit_or}
use Rattle.std.specs.Int.{bit_at}
use Rattle.std.proofs.lemmas.Bool.{cases_lt}
use Rattle.std.proofs.lemmas.Nat.{div-mul-add, mod-mul-add, shr_split, pow_pos, or_disjoint, div-add-mod'}
use Rattle.std.proofs.lemmas.Nat.Bits.{bit_at-zero, bit_at_above, bit_at_and, bit_at_or, bit_at_cat_low, bit_at_cat_high, same_from_bits}
use Rattle.linearize.specs.Slots.{interleaved}
use Rattle.linearize.specs.MortonLaws.{digit_of, bit_at-interleaved}

-- ---- digits that stand apart

-- a digit is that of one number or of another, of which one has 0
abbrev IsEither : ℕ → ℕ → ℕ → Type 0
IsEither one other both = (both ≡ max one other) × (min one other ≡ 0)

-- the digits of a multiple of a power of two and of a number below it
bits_apart : (n k power b : ℕ) → n % 2 ^ power ≡ 0 → k < 2 ^ power → IsEither (bit_at n b) (bit_at k b) (bit_at (n + k) b)
bits_apart n k power b even small =
    let high : ℕ = n / 2 ^ power in
    let whole : n ≡ high * 2 ^ power + 0 = omega (arith, shr_split n power, even) in
    let sum : n + k ≡ high * 2 ^ power + k = omega (arith, whole) in
    ⊎_elim
    (λ (low : b < power).
    let none : bit_at n b ≡ 0 = ap (λ (m : ℕ). bit_at m b) whole ∙ bit_at_cat_low high power 0 b low ∙ bit_at-zero b in
    (omega (arith, none, (ap (λ (m : ℕ). bit_at m b) sum ∙ bit_at_cat_low high power k b low)), omega (arith, none)))
    (λ (above : power ≤ b).
    let none : bit_at k b ≡ 0 = bit_at_above k power b small above in
    let own : bit_at (n + k) b ≡ bit_at n b = ap (λ (m : ℕ). bit_at m b) sum ∙ bit_at_cat_high high power k b small above
    ∙ sym (ap (λ (m : ℕ). bit_at m b) whole ∙ bit_at_cat_high high power 0 b (pow_pos power) above) in
    (omega (arith, none, own), omega (arith, none)))
    (cases_lt b power)

-- those of a slot, where the column is such a multiple
digits_apart : (line column k power j : ℕ) → column % 2 ^ power ≡ 0 → k < 2 ^ power
    → IsEither (digit_of (line ∷ column ∷ []) j) (digit_of (0 ∷ k ∷ []) j) (digit_of (line ∷ (column + k) ∷ []) j)
digits_apart line column k power j even small =
    let Either : ℕ → Type 0 = λ d. IsEither (bit_at (get_or (line ∷ column ∷ []) d 0) (j / 2)) (bit_at (get_or (0 ∷ k ∷ []) d 0) (j / 2))
    (bit_at (get_or (line ∷ (column + k) ∷ []) d 0) (j / 2)) in
    ⊎_elim
    (λ (right : j % 2 < 1).
    let second : 1 ≡ 2 - 1 - j % 2 = omega arith in
    subst Either second (bits_apart column k power (j / 2) even small))
    (λ (left : 1 ≤ j % 2).
    let first : 0 ≡ 2 - 1 - j % 2 = omega arith in
    subst Either first (omega (arith, bit_at-zero (j / 2)), omega (arith, bit_at-zero (j / 2))))
    (cases_lt (j % 2) 1)

-- the slot of a column, so many behind a multiple of a power of two
morton_apart : (line column k power : ℕ) → column % 2 ^ power ≡ 0 → k < 2 ^ power
    → interleaved (line ∷ (column + k) ∷ []) ≡ interleaved (line ∷ column ∷ []) + interleaved (0 ∷ k ∷ [])
morton_apart line column k power even small =
    let one : ℕ = interleaved (line ∷ column ∷ []) in
    let other : ℕ = interleaved (0 ∷ k ∷ []) in
    let both : ℕ = interleaved (line ∷ (column + k) ∷ []) in
    let either : (j : ℕ) → IsEither (bit_at one j) (bit_at other j) (bit_at both j) = λ j.
    subst (λ (d : ℕ). IsEither d (bit_at other j) (bit_at both j)) (sym (bit_at-interleaved (line ∷ column ∷ []) j))
    (subst (λ (d : ℕ). IsEither (digit_of (line ∷ column ∷ []) j) d (bit_at both j)) (sym (bit_at-interleaved (0 ∷ k ∷ []) j))
    (subst (λ (d : ℕ). IsEither (digit_of (line ∷ column ∷ []) j) (digit_of (0 ∷ k ∷ []) j) d) (sym (bit_at-interleaved (line ∷ (column + k) ∷ []) j))
    (digits_apart line column k power j even small))) in
    let none : bit_and one other ≡ 0 = same_from_bits (bit_and one other) 0 (λ j. bit_at_and one other j ∙ (either j).1 ∙ sym (bit_at-zero j)) in
    same_from_bits both (bit_or one other) (λ j. (either j).0 ∙ sym (bit_at_or one other j)) ∙ or_disjoint one other none

-- ---- rows of a line

module _ (row columns k : ℕ) (room : row % columns + k < columns) where
  parts : row + k ≡ row / columns * columns + (row % columns + k)
  parts = omega (arith, div-add-mod' row columns)

  pub line_same : (row + k) / columns ≡ row / columns
  line_same = ap (λ (n : ℕ). n / columns) parts ∙ div-mul-add (row / columns) columns (row % columns + k) room

  pub column_on : (row + k) % columns ≡ row % columns + k
  column_on = ap (λ (n : ℕ). n % columns) parts ∙ mod-mul-add (row / columns) columns (row % columns + k) room

  -- by columns
  pub columns_apart : (lines : ℕ) → (row + k) % columns * lines + (row + k) / columns ≡ (row % columns * lines + row / columns) + k * lines
  columns_apart lines = grind (arith, column_on, line_same)

  -- in Morton order, from a column on that is a multiple of a power of two
  pub morton_line : (power : ℕ) → row % columns % 2 ^ power ≡ 0 → k < 2 ^ power
      → interleaved ((row + k) / columns ∷ (row + k) % columns ∷ []) ≡ interleaved (row / columns ∷ row % columns ∷ []) + interleaved (0 ∷ k ∷ [])
  morton_line power even small = grind (arith, line_same, column_on, morton_apart)
