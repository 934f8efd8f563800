-- The decimal text of a negated number of 32 bits, as it is computed in 64.
use Rattle.layout_cli.proofs.Imports.{◌≡◌, ℕ, ◌^◌, ◌<◌, ℤ, pos, neg_ℤ, ◌-ℤ◌, FitsSigned, ap, ◌∙◌, arith, w64, signed_decimal, ints, to_z-of_z, to_z, of_z, decimal_text, signed_decimal-decimal_text}

pub negated : (n : ℕ) (z : ℤ) → n < 2 ^ 32 → z ≡ pos n → signed_decimal (to_z w64 (of_z w64 (pos 0 -ℤ to_z w64 (of_z w64 z)))) ≡ decimal_text (neg_ℤ (pos n))
negated n z small is =
    let fits : FitsSigned w64 z = record { sfits = omega (arith, ints, is) } in
    let minus : pos 0 -ℤ to_z w64 (of_z w64 z) ≡ neg_ℤ (pos n) = ap (λ x. pos 0 -ℤ x) (to_z-of_z w64 z fits ∙ is) ∙ omega (arith, ints) in
    let low : FitsSigned w64 (neg_ℤ (pos n)) = record { sfits = omega (arith, ints) } in
    ap (λ x. signed_decimal (to_z w64 (of_z w64 x))) minus ∙ ap signed_decimal (to_z-of_z w64 (neg_ℤ (pos n)) low) ∙ signed_decimal-decimal_text (neg_ℤ (pos n)) (omega (arith, ints))
