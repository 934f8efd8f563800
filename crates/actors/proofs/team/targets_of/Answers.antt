use Rattle.actors.proofs.Turns.{one_target}
use Rattle.actors.proofs.team.targets_of.Goals as goal

pub loop-set-preserved : goal.loop-set-preserved
loop-set-preserved c = rw c.in_ok-push.ensures.items (one_target c.args.sets.now c.loop-set.set-index c.set-item.result c.loop-set.targets.items c.loop-set-test.true c.set-item.is c.loop-set.invariant)
