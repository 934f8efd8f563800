use Rattle.map_any.proofs.Imports.{to_z-of_z, common_steps, arith}
use Rattle.map_any.proofs.leaf_rules.taken_range.Goals as goal

pub returns : goal.returns
returns c = grind (arith, common_steps, to_z-of_z)
