-- The extents of a view that is made are those that the words of a line say in numbers.
use Rattle.saved_runs.proofs.Imports.{◌≡◌, ◌⊎◌, ℕ, ◌*◌, ◌/◌, ◌%◌, ◌^◌, ◌<◌, ◌≤◌, Bool, false, not, ◌&&◌, nat_lt, List, [], ◌∷◌, map, length, Option, Some, None, if◌then◌else◌, ⊎_elim, refl, sym, ap, subst, arith, ◌||◌, ◌==◌, count_by, unwrap_or, list_any, option_map_or, le-ltb, ltb-false, nat_tests, length-map, mul-le-mul_left, product, is_rows, is_zero, extent_of, fixed_product, extents_for, bad_shape, bad_extents, same_fixed, product_filled, fixed_positive, product_fixed, product_divided, ExtentWord, Fixed, Rows, Each}
use Rattle.extents.specs.declared.words.BadExtents.TheVariants as bad
use Rattle.saved_runs.proofs.Lines.{IsLow}

-- extents that a line says in numbers, and that are those of an array
pub record AreExtents (extents : List ℕ) : Type 0 where
  pub shaped : bad_shape (map Fixed extents) ≡ None
  pub ranged : bad_extents (map Fixed extents) None ≡ None
  pub some : 1 ≤ length extents
  pub low : Each (λ n. n < 2 ^ 32) extents

-- what the tests of words say
record IsShaped (words : List ExtentWord) : Type 0 where
  some : 1 ≤ length words
  few : length words ≤ 4
  one : count_by is_rows words ≤ 1
  apart : (nat_lt 0 (count_by is_rows words) && list_any is_zero words) ≡ false

ranked : (n : ℕ) → ((n == 0) || nat_lt 4 n) ≡ false → (1 ≤ n) × (n ≤ 4)
ranked n is = grind (arith, nat_tests)

-- three tests, none of which tells a cause
all_passed : {A : Type 0} (a b c : Bool) (x y z : A) → (if a then Some x else (if b then Some y else (if c then Some z else None))) ≡ None → (a ≡ false) × (b ≡ false) × (c ≡ false)
all_passed false false false x y z is = (refl, refl, refl)
all_passed _ _ _ x y z is = absurd (cc is)

is_shaped : (words : List ExtentWord) → bad_shape words ≡ None → IsShaped words
is_shaped words is =
    let tests = all_passed ((length words == 0) || nat_lt 4 (length words)) (nat_lt 1 (count_by is_rows words)) (nat_lt 0 (count_by is_rows words) && list_any is_zero words) bad.Rank bad.TwoRows bad.RowsBesideZero is in
    let rank = ranked (length words) tests.0 in
    record { some = rank.0; few = rank.1; one = ltb-false 1 (count_by is_rows words) tests.1; apart = tests.2 }

-- what the tests of words for a number of rows say
record IsRanged (words : List ExtentWord) (rows : Option ℕ) : Type 0 where
  even : (nat_lt 0 (count_by is_rows words) && not (unwrap_or rows 0 % fixed_product words == 0)) ≡ false
  equal : ((count_by is_rows words == 0) && option_map_or (λ n. not (n == fixed_product words)) rows false) ≡ false
  few : product (extents_for words rows) ≤ 2 ^ 24

is_ranged : (words : List ExtentWord) (rows : Option ℕ) → bad_extents words rows ≡ None → IsRanged words rows
is_ranged words rows is =
    let tests = all_passed (nat_lt 0 (count_by is_rows words) && not (unwrap_or rows 0 % fixed_product words == 0)) ((count_by is_rows words == 0) && option_map_or (λ n. not (n == fixed_product words)) rows false)
    (nat_lt (2 ^ 24) (product (extents_for words rows))) bad.NotDivisible bad.NotEqual bad.TooMany is in
    record { even = tests.0; equal = tests.1; few = ltb-false (2 ^ 24) (product (extents_for words rows)) tests.2 }

at_most_one : (n : ℕ) → n ≤ 1 → (n ≡ 0) ⊎ (n ≡ 1)
at_most_one n few = grind arith

-- the product of the extents for a dataset is its number of rows
equal_rows : (count rows size : ℕ) → count ≡ 0 → ((count == 0) && not (rows == size)) ≡ false → rows ≡ size
equal_rows count rows size none test = grind (arith, nat_tests)

even_rows : (count left : ℕ) → count ≡ 1 → (nat_lt 0 count && not (left == 0)) ≡ false → left ≡ 0
even_rows count left one test = grind (arith, nat_tests)

pub rows_are : (words : List ExtentWord) (rows : ℕ) → bad_shape words ≡ None → bad_extents words (Some rows) ≡ None → product (extents_for words (Some rows)) ≡ rows
rows_are words rows shaped ranged =
    let range = is_ranged words (Some rows) ranged in
    ⊎_elim (λ (none : count_by is_rows words ≡ 0).
    sym (product_fixed words (rows / fixed_product words) rows none (equal_rows (count_by is_rows words) rows (fixed_product words) none range.equal)))
    (λ (one : count_by is_rows words ≡ 1).
    sym (product_divided words rows (fixed_product words) one refl (even_rows (count_by is_rows words) (rows % fixed_product words) one range.even)))
    (at_most_one (count_by is_rows words) (is_shaped words shaped).one)

-- ---- numbers as words

no_rows : (extents : List ℕ) → count_by is_rows (map Fixed extents) ≡ 0
no_rows [] = refl
no_rows (n ∷ extents) = no_rows extents

same_extents : (s : ℕ) (extents : List ℕ) → map (extent_of s) (map Fixed extents) ≡ extents
same_extents s [] = refl
same_extents s (n ∷ extents) = ap (λ (ns : List ℕ). n ∷ ns) (same_extents s extents)

numbers_shaped : (extents : List ℕ) → 1 ≤ length extents → length extents ≤ 4 → bad_shape (map Fixed extents) ≡ None
numbers_shaped extents some few = grind (arith, length-map, nat_lt, nat_tests, no_rows)

numbers_ranged : (extents : List ℕ) → product extents ≤ 2 ^ 24 → bad_extents (map Fixed extents) None ≡ None
numbers_ranged extents few =
    rw (no_rows extents, same_extents (0 / fixed_product (map Fixed extents)) extents, le-ltb (2 ^ 24) (product extents) few) refl

-- ---- words for rows

low_words : (s : ℕ) (words : List ExtentWord) → s < 2 ^ 32 → Each IsLow words → Each (λ n. n < 2 ^ 32) (map (extent_of s) words)
low_words s [] small all = tt
low_words s (Fixed n ∷ words) small all = (all.0, low_words s words small all.1)
low_words s (Rows ∷ words) small all = (small, low_words s words small all.1)

extents_low : (s : ℕ) (words : List ExtentWord) → IsShaped words → product (map (extent_of s) words) ≤ 2 ^ 24 → Each IsLow words → Each (λ n. n < 2 ^ 32) (map (extent_of s) words)
extents_low s words shape few all =
    ⊎_elim (λ (none : count_by is_rows words ≡ 0). subst (Each (λ n. n < 2 ^ 32)) (same_fixed words 0 s none) (low_words 0 words (omega arith) all))
    (λ (one : count_by is_rows words ≡ 1).
    let no_zero : list_any is_zero words ≡ false = beside (count_by is_rows words) (list_any is_zero words) one shape.apart in
    let filled : s * fixed_product words ≤ 2 ^ 24 = subst (λ (n : ℕ). n ≤ 2 ^ 24) (product_filled words s one) few in
    low_words s words (quotient_low s (fixed_product words) (fixed_positive words no_zero) filled) all)
    (at_most_one (count_by is_rows words) shape.one)
  where
    beside : (n : ℕ) (empty : Bool) → n ≡ 1 → (nat_lt 0 n && empty) ≡ false → empty ≡ false
    beside n empty one apart = grind (arith, nat_tests)

    quotient_low : (s p : ℕ) → 0 < p → s * p ≤ 2 ^ 24 → s < 2 ^ 32
    quotient_low s p some few = grind (arith, mul-le-mul_left)

-- the extents of words are such extents
pub are_extents : (words : List ExtentWord) (rows : Option ℕ) → bad_shape words ≡ None → bad_extents words rows ≡ None → Each IsLow words → AreExtents (extents_for words rows)
are_extents words rows shaped ranged all =
    let shape = is_shaped words shaped in
    let long : length (extents_for words rows) ≡ length words = length-map words (extent_of (unwrap_or rows 0 / fixed_product words)) in
    let few = (is_ranged words rows ranged).few in
    record {
      shaped = numbers_shaped (extents_for words rows) (omega (arith, long, shape.some)) (omega (arith, long, shape.few));
      ranged = numbers_ranged (extents_for words rows) few;
      some = omega (arith, long, shape.some);
      low = extents_low (unwrap_or rows 0 / fixed_product words) words shape few all;
    }

-- extents of an array that a line says in numbers
pub said_extents : (extents : List ℕ) → bad_shape (map Fixed extents) ≡ None → bad_extents (map Fixed extents) None ≡ None → Each IsLow (map Fixed extents) → AreExtents extents
said_extents extents shaped ranged all =
    let shape = is_shaped (map Fixed extents) shaped in
    record { shaped = shaped; ranged = ranged; some = omega (arith, length-map extents Fixed, shape.some); low = each_low extents all }
  where
    each_low : (extents : List ℕ) → Each IsLow (map Fixed extents) → Each (λ n. n < 2 ^ 32) extents
    each_low [] all = tt
    each_low (n ∷ extents) all = (all.0, each_low extents all.1)
