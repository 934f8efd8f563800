use Rattle.views.proofs.Imports.{◌≡◌, term_of, layout_by, schema_fields, heat_counts, HasGranules, row_raised}
use Rattle.views.proofs.view.touch.raise_row.Given as goal

abbrev pub invariant-loop-leaf : goal.invariant-loop-leaf
invariant-loop-leaf l =
    let layout = layout_by (term_of l.map.expr) l.map.extents (schema_fields l.map.schema) in
    (heat_counts l.heat ≡ row_raised l.times layout l.leaf l.row (heat_counts l.initial.heat)) × HasGranules layout (heat_counts l.heat)
