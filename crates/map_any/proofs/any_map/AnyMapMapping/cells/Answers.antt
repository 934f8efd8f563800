use Rattle.map_any.proofs.Imports.{length-map, leaves, length-leaf_cells, common_steps, arith}
use Rattle.map_any.proofs.any_map.AnyMapMapping.cells.Goals as goal

pub returns : goal.returns
returns c = grind (arith, common_steps, length-leaf_cells, length-map, leaves)
