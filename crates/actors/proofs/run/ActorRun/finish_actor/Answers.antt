use Rattle.actors.proofs.Lemmas.{arith, common_steps, turn_made}
use Rattle.actors.proofs.run.ActorRun.finish_actor.Goals as goal

pub loop-preserved : goal.loop-preserved
loop-preserved c = grind (arith, common_steps, turn_made)
