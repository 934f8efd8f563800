use Rattle.views.proofs.Imports.{to_z-of_z, common_steps, arith}
use Rattle.views.proofs.runs.are_taken.Goals as goal

pub returns : goal.returns
returns c = grind (arith, common_steps, to_z-of_z)
