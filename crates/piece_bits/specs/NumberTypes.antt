-- What loops over numbers of one integer type make of them; `value` and `fits` are the type's.
use Rattle.std.specs.Prelude.{ℕ, ◌≤◌, Bool, not, ℤ, ◌+ℤ◌, ◌*ℤ◌, int_lt, int_le, List, length, take, fold}
use Rattle.piece_bits.specs.Imports.{int_eq, Each2}
use Rattle.piece_bits.specs.declared.compare.Compare.{Compare}
use Rattle.piece_bits.specs.declared.compare.Compare.TheVariants.{Eq, Ne, Lt, Le, Gt, Ge}

-- whether a value compares so with a constant
abbrev pub compares : Compare → ℤ → ℤ → Bool
compares Eq value c = int_eq value c
compares Ne value c = not (int_eq value c)
compares Lt value c = int_lt value c
compares Le value c = int_le value c
compares Gt value c = int_lt c value
compares Ge value c = int_le c value

-- each sum on the way is a number of the type
abbrev pub SumsFit : {T : Type 0} → (T → ℤ) → (ℤ → Type 0) → ℤ → List T → Type 0
SumsFit value fits start values = (k : ℕ) → k ≤ length values → fits (fold (λ sum x. sum +ℤ value x) start (take k values))

-- each product with a factor, and each sum of it, is a number of the type
abbrev pub ProductsFit : {T : Type 0} → (T → ℤ) → (ℤ → Type 0) → ℤ → List T → List T → Type 0
ProductsFit value fits factor values added = Each2 (λ x y. fits (factor *ℤ value x) × fits (factor *ℤ value x +ℤ value y)) values added
