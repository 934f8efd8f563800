use Rattle.views.proofs.Imports.{◌≡◌, ℕ, Bool, Option, get_or, option_map, ap, ◌∙◌, subst, IfSome, term_of, layout_by, schema_fields, HeatCounts, heat_counts, warmed, Heat, HasGranules, granules_touched, touched_same, inside-counted, piece_inside, arith}
use Rattle.views.proofs.view.touch.touch_heat.Goals as goal

pub touch-requires : goal.touch-requires
touch-requires c k d small =
    let m = c.args.map.now in
    let layout = layout_by (term_of m.expr) m.extents (schema_fields m.schema) in
    let has : HasGranules layout (heat_counts c.in-Some.heat) =
    subst (λ (o : Option Heat). IfSome (option_map heat_counts o) (HasGranules layout)) c.in-Some.is c.requires.granules in
    inside-counted (piece_inside layout (heat_counts c.in-Some.heat) (get_or c.locate.result.items k d) c.in-Some.heat.some c.laws_of.ensures.lawful.whole_bytes has (c.locate.ensures.each k d small))

pub returns-in-Some : goal.returns-in-Some
returns-in-Some c =
    let m = c.args.map.now in
    let layout = layout_by (term_of m.expr) m.extents (schema_fields m.schema) in
    let heat = heat_counts c.in-Some.heat in
    let same = touched_same c.laws_of.ensures.lawful c.locate.ensures heat.granule in
    let new : heat_counts c.touch.new.self ≡ granules_touched layout c.args.row c.args.leaf heat =
    c.touch.ensures ∙ ap (λ (test : ℕ → ℕ → Bool). let h : HeatCounts = record heat { blobs = warmed test heat.blobs } in h) same in
    grind (arith, option_map)
