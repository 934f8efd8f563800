-- what the entries so far say
use Rattle.map_checks.proofs.Imports.{◌≡◌, take, fold, schema_fields, width_by}
use Rattle.map_checks.proofs.widths.width_at.Given as goal

abbrev pub invariant-loop-entry : goal.invariant-loop-entry
invariant-loop-entry l = l.found ≡ fold (width_by (schema_fields l.schema) l.leaf) l.width (take l.entry-index l.entries)
