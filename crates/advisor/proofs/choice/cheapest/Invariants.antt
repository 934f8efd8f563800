use Rattle.advisor.proofs.Imports.{costs_in, IsCheapest}
use Rattle.advisor.proofs.choice.cheapest.Given as goal

abbrev pub invariant-loop-at : goal.invariant-loop-at
invariant-loop-at l = IsCheapest (costs_in l.pool) l.marks l.at l.best
