use Rattle.subviews.proofs.Values.{IsSummed}
use Rattle.subviews.proofs.rounds.value_at.Given as goal

abbrev pub invariant-loop-place : goal.invariant-loop-place
invariant-loop-place g l = IsSummed l.initial.view l.view l.plan l.row l.place l.sum
