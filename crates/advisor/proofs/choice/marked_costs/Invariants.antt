use Rattle.advisor.proofs.Imports.{ℕ, ◌≡◌, Bool, Some, None, map, take, if◌then◌else◌, Term, AreMarked, terms_in}
use Rattle.advisor.proofs.choice.marked_costs.Given as goal

abbrev pub invariant-loop-at : goal.invariant-loop-at
invariant-loop-at l = (suit : Term → Bool) (price : Term → ℕ) → AreMarked suit price l.pool l.marks
    → l.costs ≡ map (λ term. if suit term then Some (price term) else None) (take l.at (terms_in l.pool))
