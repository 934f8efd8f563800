-- A quotient as a product and a shift.
use Rattle.linearize.proofs.Imports.{◌≡◌, ℕ, ◌+◌, ◌*◌, ◌/◌, ◌%◌, ◌<◌, sym, ap, ◌∙◌, arith, mul_comm, mul_assoc, mul-add, mod-lt, mul-div-mul_right, mod-eq-sub-div-mul, div-mul-le_self, div-mul-add, mul-add-lt}

-- p is the power by which is shifted, and factor * columns is e more than it
pub divided : (row columns factor e p : ℕ) → 0 < columns → factor * columns ≡ p + e → row * e < p → row * factor / p ≡ row / columns
divided row columns factor e p some near small =
    let q : ℕ = row / columns in
    let r : ℕ = row % columns in
    let row_is : q * columns + r ≡ row = omega (arith, mod-eq-sub-div-mul row columns, div-mul-le_self row columns) in
    let parts : row * p ≡ q * (columns * p) + r * p =
    ap (λ (n : ℕ). n * p) (sym row_is) ∙ mul_comm (q * columns + r) p ∙ mul-add p (q * columns) r
    ∙ (omega (arith, (mul_comm p r))) in
    let turned : p * columns ≡ columns * p = mul_comm p columns in
    sym (mul-div-mul_right (row * factor) p some)
    ∙ ap (λ (n : ℕ). row * factor * columns / n) turned
    ∙ ap (λ (n : ℕ). n / (columns * p)) (omega (arith, (mul_assoc row factor columns ∙ ap (λ (n : ℕ). row * n) near ∙ mul-add row p e), parts))
    ∙ div-mul-add q (columns * p) (r * p + row * e) (omega (arith, (mul-add-lt r p (row * e) columns (mod-lt row some) small), turned))
