use Rattle.advisor.proofs.Imports.{◌≡◌, ◌<◌, ℕ, None, length, map, get_or, term_of, IsSideCost, term_at}
use Rattle.advisor.proofs.sides.side_costs.Given as goal

abbrev pub invariant-loop-at : goal.invariant-loop-at
invariant-loop-at l = record {
  each : length l.costs.items ≡ l.at;
  costs : (k : ℕ) → k < l.at → IsSideCost l.view l.price.granule l.price.passes.now l.cells (term_at (map term_of l.listed) k) (get_or l.costs.items k None);
}
