use Rattle.map_any.proofs.Lemmas.{List, map, slice_index, sym, subst, schema_fields, Owner, IsLocated, Hold, Piece, term_of, layout_of, rule_located, rule_begins}
use Rattle.map_any.proofs.cell_map.CellMapMapping.locate.Goals as goal

pub slot_of_row-requires-clause-few : goal.slot_of_row-requires-clause-few
slot_of_row-requires-clause-few c = c.rule-rule.ensures.few

pub pieces_in-requires : goal.pieces_in-requires
pieces_in-requires c = record { fit = rule_begins _ _ _ _ _ c.slot_of_row.result c.rule-rule.result.now c.rule-rule.ensures c.slot_of_row.ensures.slot c.requires.slot_in }

pub returns : goal.returns
returns c =
    let m = c.args.self.now in
    let layout : List (List Owner) = layout_of (term_of m.expr) m.extents (schema_fields m.schema) m.cells.items in
    let width = slice_index (map (λ (h : Hold). h.width) m.plan.holds) c.args.cell in
    subst (λ (ps : List Piece). IsLocated layout c.args.slot c.args.cell width ps) (sym c.pieces_in.ensures)
    (rule_located layout m.extents c.args.slot c.args.cell width c.slot_of_row.result c.rule-rule.result.now c.rule-rule.ensures c.slot_of_row.ensures.slot c.requires.slot_in)
