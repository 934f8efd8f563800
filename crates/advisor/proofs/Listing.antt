-- Listed expressions, one after another.
use Rattle.advisor.proofs.Imports.{◌≡◌, ℕ, ◌+◌, ◌<◌, ◌≤◌, List, length, map, get_or, drop, add-one, drop-cons, Option, None, Ok, sym, ap, ◌∙◌, Result, drop_all, Term, Count, Heat, uncounted, IsBuiltTerm, MakeMap, AdviseFault, fault_or, first_judged_fault, arith}

-- an expression that is built is so without its counters
pub built_uncounted : (term : Term) → IsBuiltTerm term → IsBuiltTerm (uncounted term)
built_uncounted (Count inner) built = built_uncounted inner built
built_uncounted (Heat granule inner) built = built_uncounted inner built
built_uncounted other built = built

-- the first fault from an expression on
module _ {X : Type 0} (judge : Term → Result Unit MakeMap) (f : X → Term) (xs : List X) where
  fault_from : ℕ → Option AdviseFault
  fault_from at = first_judged_fault judge at (map f (drop at xs))

  next_fault : (at : ℕ) (d : X) → at < length xs → fault_from at ≡ fault_or at (judge (f (get_or xs at d))) (fault_from (at + 1))
  unfolding fault_from
  next_fault at d l = grind (arith, drop-cons, add-one)

  -- one that is good is passed
  pub good_passed : (at : ℕ) (x : X) → at < length xs → x ≡ get_or xs at x → judge (f x) ≡ Ok tt → first_judged_fault judge 0 (map f xs) ≡ first_judged_fault judge at (map f (drop at xs))
      → first_judged_fault judge 0 (map f xs) ≡ first_judged_fault judge (at + 1) (map f (drop (at + 1) xs))
  unfolding fault_from
  good_passed at x l is good so =
      so ∙ next_fault at x l ∙ ap (λ (r : Result Unit MakeMap). fault_or at r (fault_from (at + 1))) (ap (λ (y : X). judge (f y)) (sym is) ∙ good)

  -- behind the last there is none
  pub none_behind : (at : ℕ) → length xs ≤ at → first_judged_fault judge 0 (map f xs) ≡ first_judged_fault judge at (map f (drop at xs)) → first_judged_fault judge 0 (map f xs) ≡ None
  none_behind at l so = so ∙ ap (λ (ys : List X). first_judged_fault judge at (map f ys)) (drop_all at xs l)
