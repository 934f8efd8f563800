use Rattle.advisor.proofs.Lemmas.{get_or, reads, leaves_in, AreChosen}
use Rattle.advisor.proofs.costs.cells_read.Given as goal

abbrev pub invariant-loop-at : goal.invariant-loop-at
invariant-loop-at l = AreChosen (λ cell. reads l.pass (get_or (leaves_in l.cells) cell 0)) l.at l.read.items
