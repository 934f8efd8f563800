-- the cells so far
use Rattle.map_checks.proofs.Imports.{◌≡◌, take, schema_fields, side_of, cells_under, cells_beside}
use Rattle.map_checks.proofs.sides.split_cells.Given as goal

abbrev pub invariant-loop-cell : goal.invariant-loop-cell
invariant-loop-cell l =
    (l.side ≡ side_of (schema_fields l.schema) l.path (take l.cell-index l.cells))
    × (l.first ≡ cells_under (schema_fields l.schema) l.path (take l.cell-index l.cells))
    × (l.rest ≡ cells_beside (schema_fields l.schema) l.path (take l.cell-index l.cells))
