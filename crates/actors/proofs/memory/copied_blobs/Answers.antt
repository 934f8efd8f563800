use Rattle.actors.proofs.Lemmas.{arith, common_steps, one_copied}
use Rattle.actors.proofs.memory.copied_blobs.Goals as goal

pub loop-b-preserved : goal.loop-b-preserved
loop-b-preserved c = grind (arith, common_steps, one_copied)
