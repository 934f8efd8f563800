use Rattle.map_checks.proofs.Imports.{◌≡◌, take, schema_fields, kinds_of, leaf_cells}
use Rattle.map_checks.proofs.cells.cells_of.Given as goal

abbrev pub invariant-loop-leaf : goal.invariant-loop-leaf
invariant-loop-leaf l = l.cells ≡ leaf_cells (take l.leaf (kinds_of (schema_fields l.schema)))
