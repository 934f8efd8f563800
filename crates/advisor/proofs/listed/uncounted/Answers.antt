use Rattle.advisor.proofs.Lemmas.{arith, take_more, map_push, All-push, common_steps, built_uncounted}
use Rattle.advisor.proofs.listed.uncounted.Goals as goal

pub loop-at-preserved : goal.loop-at-preserved
loop-at-preserved c = grind (arith, common_steps, take_more, map_push, All-push, built_uncounted)
