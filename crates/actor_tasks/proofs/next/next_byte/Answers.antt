use Rattle.actor_tasks.proofs.NextLaws.{next_more}
use Rattle.actor_tasks.proofs.next.next_byte.Goals as goal
use Rattle.std.proofs.lemmas.Grind.{common_steps}
use Rattle.std.proofs.Common.{arith}

pub loop-piece-preserved : goal.loop-piece-preserved
loop-piece-preserved c = grind (arith, common_steps, next_more)
