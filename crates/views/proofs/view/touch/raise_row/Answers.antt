use Rattle.views.proofs.Imports.{◌≡◌, ℕ, Bool, get_or, ap, sym, ◌∙◌, subst, term_of, layout_by, schema_fields, HeatCounts, heat_counts, warmed_times, inside-counted, touched_same, HasGranules, granules_raised, piece_inside, raised_granules, fold_range_more}
use Rattle.views.proofs.view.touch.raise_row.Goals as goal

pub touch_times-requires : goal.touch_times-requires
touch_times-requires c k d small =
    let m = c.args.map.now in
    let layout = layout_by (term_of m.expr) m.extents (schema_fields m.schema) in
    inside-counted (piece_inside layout (heat_counts c.loop-leaf.heat) (get_or c.locate.result.items k d) c.loop-leaf.heat.some c.laws_of.ensures.lawful.whole_bytes c.loop-leaf.invariant.1 (c.locate.ensures.each k d small))

pub loop-leaf-preserved : goal.loop-leaf-preserved
loop-leaf-preserved c =
    let m = c.args.map.now in
    let layout = layout_by (term_of m.expr) m.extents (schema_fields m.schema) in
    let heat = heat_counts c.loop-leaf.heat in
    let raise = λ (h : HeatCounts) (leaf : ℕ). granules_raised c.args.times layout c.args.row leaf h in
    let same = touched_same c.laws_of.ensures.lawful c.locate.ensures heat.granule in
    let one : heat_counts c.touch_times.new.self ≡ granules_raised c.args.times layout c.args.row c.loop-leaf.leaf heat =
    c.touch_times.ensures ∙ ap (λ (test : ℕ → ℕ → Bool). let h : HeatCounts = record heat { blobs = warmed_times c.args.times test heat.blobs } in h) same in (
      one ∙ ap (λ (h : HeatCounts). raise h c.loop-leaf.leaf) c.loop-leaf.invariant.0 ∙ sym (fold_range_more raise (heat_counts c.args.heat.now) c.loop-leaf.leaf),
      subst (λ (h : HeatCounts). HasGranules layout h) (sym one) (raised_granules layout c.args.times c.args.row c.loop-leaf.leaf heat c.loop-leaf.invariant.1),
    )
