use Rattle.worlds.proofs.Steps.{number_step}
use Rattle.worlds.proofs.paths.put_step.Goals as goal
use Rattle.worlds.proofs.Imports.{common_steps, arith}

pub returns-in-At : goal.returns-in-At
returns-in-At g c = grind (arith, common_steps, number_step)
