-- the widths so far
use Rattle.map_checks.proofs.Imports.{◌≡◌, take, schema_fields, cell_widths}
use Rattle.map_checks.proofs.widths.cell_widths.Given as goal

abbrev pub invariant-loop-cell : goal.invariant-loop-cell
invariant-loop-cell l = l.widths.items ≡ cell_widths (schema_fields l.schema) l.width l.entries (take l.cell-index l.cells)
