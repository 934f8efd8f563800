use Rattle.views.proofs.Imports.{◌≡◌, length, term_of, layout_by, leaf_cells, schema_fields, kinds_of, heat_counts, HasGranules, rows_raised}
use Rattle.views.proofs.view.touch.raise_rows.Given as goal

abbrev pub invariant-loop-row : goal.invariant-loop-row
invariant-loop-row l =
    let layout = layout_by (term_of l.map.expr) l.map.extents (schema_fields l.map.schema) in
    (heat_counts l.heat ≡ rows_raised l.times layout (length (leaf_cells (kinds_of (schema_fields l.map.schema)))) l.row (heat_counts l.initial.heat)) × HasGranules layout (heat_counts l.heat)
