use Rattle.subviews.proofs.Imports.{◌≡◌, ◌*◌, ◌≤◌, ◌^◌, take, all_weights}
use Rattle.subviews.proofs.limits.total_weight.Given as goal

abbrev pub invariant-loop-term : goal.invariant-loop-term
invariant-loop-term l = (l.total ≡ all_weights (take l.term-index l.terms)) × (l.total ≤ l.term-index * 2 ^ 31)
