-- the holds so far
use Rattle.map_checks.proofs.Imports.{◌≡◌, map, take, schema_fields, hold_within, Cell, width_at}
use Rattle.map_checks.proofs.holds.held_within.Given as goal

abbrev pub invariant-loop-cell : goal.invariant-loop-cell
invariant-loop-cell l = l.holds ≡ map (λ (cell : Cell). hold_within (width_at (schema_fields l.schema) l.width l.fields cell.leaf) cell.kind) (take l.cell-index l.cells)
