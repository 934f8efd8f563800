use Rattle.map_any.proofs.Imports.{slice_get, arith, length-map, leaves, length-leaf_cells, leaf_cells_kinds, common_steps}
use Rattle.map_any.proofs.any_map.AnyMapMapping.kind.Goals as goal

pub leaf_type-requires : goal.leaf_type-requires
leaf_type-requires c = grind (arith, common_steps, leaves, length-leaf_cells, length-map)

pub returns : goal.returns
returns c = grind (arith, common_steps, slice_get, leaf_cells_kinds)
