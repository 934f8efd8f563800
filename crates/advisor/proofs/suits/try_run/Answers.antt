use Rattle.advisor.proofs.Lemmas.{arith, common_steps, trials_to}
use Rattle.advisor.proofs.suits.try_run.Goals as goal

pub try_leaf-requires : goal.try_leaf-requires
try_leaf-requires g c = grind (arith, common_steps, trials_to)
