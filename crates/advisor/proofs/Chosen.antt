-- Cells that are chosen one after another.
use Rattle.advisor.proofs.Imports.{◌≡◌, ℕ, ◌+◌, ◌<◌, Bool, true, false, List, [], ◌∷◌, ◌++◌, All, get_or, arith, ◌||◌, list_any, ne_eqb, eq-eqb, cases_eq, All-push, list_any-append, list_any_none, ◌==◌}

-- of the first so many cells those are in the list that are wanted
pub record AreChosen (wanted : ℕ → Bool) (count : ℕ) (chosen : List ℕ) : Type 0 where
  pub inside : All (λ cell. cell < count) chosen
  pub right : (cell : ℕ) → cell < count → list_any (λ other. other == cell) chosen ≡ wanted cell

wider : (count : ℕ) (chosen : List ℕ) → All (λ cell. cell < count) chosen → All (λ cell. cell < count + 1) chosen
wider count chosen inside = λ k d l. omega (arith, inside k d l)

absent : (count : ℕ) (chosen : List ℕ) → All (λ cell. cell < count) chosen → list_any (λ other. other == count) chosen ≡ false
absent count chosen inside = list_any_none (λ other. other == count) chosen (λ k d l. ne_eqb (get_or chosen k d) count (λ e. omega (arith, e, inside k d l)))

pub one_left : (wanted : ℕ → Bool) (count : ℕ) (chosen : List ℕ) → AreChosen wanted count chosen → wanted count ≡ false → AreChosen wanted (count + 1) chosen
one_left wanted count chosen so lacks = grind (arith, wider, list_any, absent, cases_eq)

pub or_true : (b : Bool) → (b || (true || false)) ≡ true
or_true b = grind arith

or_no : (b : Bool) → (b || (false || false)) ≡ b
or_no b = grind arith

pub one_taken : (wanted : ℕ → Bool) (count : ℕ) (chosen : List ℕ) → AreChosen wanted count chosen → wanted count ≡ true → AreChosen wanted (count + 1) (chosen ++ count ∷ [])
one_taken wanted count chosen so wants = record {
  inside = All-push (λ cell. cell < count + 1) chosen count (wider count chosen so.inside) (omega arith);
  right = λ cell l. grind (arith, list_any-append, list_any, eq-eqb, or_true, ne_eqb, or_no, cases_eq);
}
