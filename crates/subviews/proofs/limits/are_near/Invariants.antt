use Rattle.subviews.proofs.Imports.{ℕ, ◌<◌, ◌≤◌, ℤ, get_or, unsigned_abs, IsDeclared, leaf_type_of, Term}
use Rattle.subviews.proofs.limits.are_near.Given as goal

abbrev pub invariant-loop-term : goal.invariant-loop-term
invariant-loop-term l = (place : ℕ) (other : Term) → place < l.term-index
    → (value : ℤ) → IsDeclared (leaf_type_of l.view (get_or l.terms place other).leaf) value → unsigned_abs value ≤ l.limit
