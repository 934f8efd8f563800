use Rattle.map_any.proofs.Lemmas.{get_or, runs_of, common_steps, arith, runs_shown}
use Rattle.map_any.proofs.any.AnyMap.runs.Goals as goal

pub returns : goal.returns
unfolding runs_of
returns c = grind (arith, common_steps, get_or, runs_shown)
