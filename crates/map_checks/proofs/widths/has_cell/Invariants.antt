-- none so far is under the path
use Rattle.map_checks.proofs.Imports.{◌≡◌, take, false, list_any, schema_fields, is_under}
use Rattle.map_checks.proofs.widths.has_cell.Given as goal

abbrev pub invariant-loop-cell : goal.invariant-loop-cell
invariant-loop-cell l = list_any (λ cell. is_under (schema_fields l.schema) l.entry.path cell.leaf) (take l.cell-index l.cells) ≡ false
