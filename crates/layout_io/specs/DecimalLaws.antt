-- Laws of decimal texts, and that they are what std prints.
use Rattle.std.specs.Prelude.{◌≡◌, ℕ, zero, suc, ◌+◌, ◌/◌, ◌%◌, ◌^◌, ◌<◌, ◌≤◌, [], ◌∷◌, ◌++◌, map, ℤ}
use Rattle.std.proofs.Common.{refl, sym, ap, ◌∙◌, arith}
use Rattle.std.specs.Fmt.{decimal, signed_decimal}
use Rattle.std.specs.Int.Digits.{digits_of}
use Rattle.std.proofs.lemmas.Int.Digits.{digits_of_step}
use Rattle.std.proofs.lemmas.Fmt.{decimal_by_steps_wide}
use Rattle.std.proofs.lemmas.List.{map-append}
use Rattle.layout_io.specs.Decimal.{digits_text, decimal_text}
use lib.Signed.{mag}

-- above 0 the digits are those of the number
digits_text-pos : (n : ℕ) → 0 < n → digits_text n ≡ map (λ digit. 48 + digit) (digits_of 10 n)
unfolding digits_text
digits_text-pos zero some = absurd (omega arith)
digits_text-pos (suc n) some = refl

-- 0 is written as one digit
pub digits_text-zero : digits_text 0 ≡ 48 ∷ []
unfolding digits_text
digits_text-zero = refl

-- a number below 10 is written as one digit
pub digits_text-digit : (n : ℕ) → n < 10 → digits_text n ≡ (48 + n) ∷ []
digits_text-digit n small = grind (arith, digits_text-zero, digits_text-pos, digits_of_step, digits_of)

-- a longer number is written as the number without its last digit, and then that digit
pub digits_text-step : (n : ℕ) → 10 ≤ n → digits_text n ≡ digits_text (n / 10) ++ (48 + n % 10) ∷ []
digits_text-step n long = grind (arith, digits_text-pos, digits_of_step, map-append, digits_of)

-- std prints the digits
pub decimal-digits_text : (n : ℕ) → n < 10 ^ 64 → decimal n ≡ digits_text n
decimal-digits_text = decimal_by_steps_wide (λ n text. text ≡ digits_text n) (λ n small. sym (digits_text-digit n small))
    (λ n text long front. ap (λ front. front ++ (48 + n % 10) ∷ []) front ∙ sym (digits_text-step n long))

-- std prints the decimal text
pub signed_decimal-decimal_text : (z : ℤ) → mag z + 1 < 10 ^ 64 → signed_decimal z ≡ decimal_text z
signed_decimal-decimal_text z small = grind (arith, decimal-digits_text)
