use Rattle.subviews.proofs.Lemmas.{◌-◌, IsWalk, IsStored}
use Rattle.subviews.proofs.rounds.store_back.Given as goal

abbrev pub invariant-loop-row : goal.invariant-loop-row
invariant-loop-row g l = record {
  stored : IsStored l.initial.view l.view l.initial.buffer l.buffer l.plan l.row;
  walk : IsWalk l.plan.window.now l.walk l.row;
}

abbrev pub decreases-loop-row : goal.decreases-loop-row
decreases-loop-row g l = l.count - l.row
