use Rattle.subviews.proofs.Lemmas.{IsPlanOf, planned, IsAfter}
use Rattle.subviews.proofs.rounds.stencil.Given as goal

abbrev pub invariant-loop-round : goal.invariant-loop-round
invariant-loop-round g l = record {
  plan : IsPlanOf l.initial.view.fields l.initial.view.extents l.plan;
  after : IsAfter l.initial.view l.view l.initial.buffer l.buffer (planned l.plan) l._round;
}
