use Rattle.map_any.proofs.Imports.{to_z-of_z, leaf_cells_kinds, common_steps, arith}
use Rattle.map_any.proofs.any.AnyMap.taken.Goals as goal

pub returns : goal.returns
returns c = grind (arith, common_steps, to_z-of_z, leaf_cells_kinds)
