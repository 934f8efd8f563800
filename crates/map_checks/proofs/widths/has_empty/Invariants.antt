-- each so far has a cell
use Rattle.map_checks.proofs.Imports.{◌≡◌, take, false, not, list_any, schema_fields, has_cell}
use Rattle.map_checks.proofs.widths.has_empty.Given as goal

abbrev pub invariant-loop-entry : goal.invariant-loop-entry
invariant-loop-entry l = list_any (λ entry. not (has_cell (schema_fields l.schema) l.cells entry)) (take l.entry-index l.entries) ≡ false
