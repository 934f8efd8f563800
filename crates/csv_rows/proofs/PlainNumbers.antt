-- Numbers as most are written: digits, behind a minus or not.
use Rattle.csv_rows.proofs.Imports.{◌≡◌, ℕ, suc, ◌+◌, ◌<◌, Bool, true, false, ℤ, pos, neg_ℤ, ◌-ℤ◌, FitsSigned, Option, List, [], ◌∷◌, length, take, drop, get_or, Some, None, refl, sym, ap, subst, ◌∙◌, arith, if◌then◌else◌, w128, is_ascii_digit, list_all, digits_value, ints, unspaced, all_digits, digits_number, number_behind_sign, folded, shortened, folded_near, is_comma, is_line_end, IsFieldHere, option_map, ◌^◌}
use Rattle.csv_rows.proofs.CsvReads.{some_is}
use Rattle.csv_rows.proofs.PrintedBytes.{AreDigits, unspaced_same, digits_write, minus_writes}

-- digits whose number is known
all_known : (xs : List ℕ) (n : ℕ) → all_digits xs ≡ Some n → (list_all is_ascii_digit xs ≡ true) × (digits_value 10 xs ≡ n)
all_known xs n = by (list_all is_ascii_digit xs) refl where
  by : (b : Bool) → list_all is_ascii_digit xs ≡ b → (if b then Some (digits_value 10 xs) else None) ≡ Some n → (list_all is_ascii_digit xs ≡ true) × (digits_value 10 xs ≡ n)
  by true all is = (all, some_is is)
  by false all is = cc is

digits_known : (xs : List ℕ) (n : ℕ) → digits_number xs ≡ Some n → AreDigits n xs
digits_known xs n is = grind (arith, all_known)

clip_plain : (n : ℕ) → n < 2 ^ 65 → shortened (pos n) ≡ pos n
clip_plain n small = ap pos (folded_near n small)

clip_minus : (n : ℕ) → n < 2 ^ 65 → shortened (neg_ℤ (pos n)) ≡ neg_ℤ (pos n)
clip_minus n small = grind (arith, clip_plain, neg_ℤ, folded_near)

pub plain_read : (xs : List ℕ) (n : ℕ) → n < 2 ^ 65 → digits_number xs ≡ Some n → option_map shortened (number_behind_sign (unspaced xs)) ≡ Some (pos n)
plain_read xs n small is =
    let text = digits_write n xs (digits_known xs n is) in
    ap (λ (t : List ℕ). option_map shortened (number_behind_sign t)) (unspaced_same xs text.plain) ∙ ap (option_map shortened) text.number ∙ ap Some (clip_plain n small)

-- the same behind a minus
minus_inside : (xs : List ℕ) (count k d : ℕ) → ((k d : ℕ) → k < length (take count xs) → (is_comma (get_or (take count xs) k d) ≡ false) × (is_line_end (get_or (take count xs) k d) ≡ false)) → k < suc (length (take count xs))
    → (is_comma (get_or (45 ∷ take count xs) k d) ≡ false) × (is_line_end (get_or (45 ∷ take count xs) k d) ≡ false)
minus_inside xs count k d others small = grind arith

minus_front : (xs : List ℕ) (count : ℕ) → IsFieldHere xs count → IsFieldHere (45 ∷ xs) (suc count)
minus_front xs count first = grind (arith, minus_inside)

pub minus_field : (xs : List ℕ) (count : ℕ) → 0 < length xs → get_or xs 0 0 ≡ 45 → IsFieldHere (drop 1 xs) count → IsFieldHere xs (count + 1)
minus_field xs count some minus first = grind (arith, minus_front)

pub minus_read : (xs : List ℕ) (count n : ℕ) → 0 < length xs → get_or xs 0 0 ≡ 45 → n < 2 ^ 65 → digits_number (take count (drop 1 xs)) ≡ Some n → option_map shortened (number_behind_sign (unspaced (take (count + 1) xs))) ≡ Some (neg_ℤ (pos n))
minus_read [] count n some minus small is = absurd (omega arith)
minus_read (c ∷ xs) count n some minus small is =
    let next : count + 1 ≡ suc count = omega arith in
    let text = minus_writes n (take count xs) (digits_known (take count xs) n is) in grind (arith, option_map, unspaced_same, clip_minus)

-- the number behind a minus, however long it is
minus_shortened : (n : ℕ) → shortened (neg_ℤ (pos n)) ≡ neg_ℤ (pos (folded n))
minus_shortened n = grind arith

zero_minus : (n : ℕ) → pos 0 -ℤ pos n ≡ neg_ℤ (pos n)
zero_minus n = omega (arith, ints)

minus_given : (digits : Option ℕ) (value : ℤ) → Some value ≡ option_map (λ n. pos (folded n)) digits → Some (pos 0 -ℤ value) ≡ option_map shortened (option_map (λ n. neg_ℤ (pos n)) digits)
minus_given digits value is = grind (arith, some_is, zero_minus, minus_shortened)

fits_minus : (n : ℕ) → FitsSigned w128 (pos n) → FitsSigned w128 (pos 0 -ℤ pos n)
fits_minus n fits = subst (FitsSigned w128) (sym (zero_minus n)) (record { sfits = omega (arith, ints, fits.sfits) })

pub given_fits : (digits : Option ℕ) (value : ℤ) → Some value ≡ option_map (λ n. pos (folded n)) digits → FitsSigned w128 value → FitsSigned w128 (pos 0 -ℤ value)
given_fits digits value is fits = grind (arith, some_is, fits_minus)

pub minus_number : (xs : List ℕ) (value : ℤ) → 0 < length xs → get_or xs 0 0 ≡ 45 → Some value ≡ option_map (λ n. pos (folded n)) (digits_number (drop 1 xs)) → Some (pos 0 -ℤ value) ≡ option_map shortened (number_behind_sign xs)
minus_number xs value some minus is = grind (arith, option_map, minus_given)
