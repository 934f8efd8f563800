use Rattle.views.proofs.Lemmas.{◌≡◌, ◌∙◌, length, ap, sym, subst, schema_fields, leaves, Fields, indices, term_of, zeros, layout_by, IsTallied, tally_of, Tally, no_tally, new_tally, no_tally-tallied, common_steps, arith, kind_count, kept_zeros, zero_table, mapping_copied, within_copied, lawful_there, paired_there, laid_there}
use Rattle.views.proofs.view.View.new_within.Goals as goal

pub invariant_of-result : goal.invariant_of-result
invariant_of-result c =
    let made = c.in_ok-map.ensures in
    let mapping = mapping_copied {extents = c.args.extents} c.in_ok-expr.ensures c.in_ok-schema.ensures
    (record { term_is = made.term; extents_are = made.extents; layout_is = made.layout; slots_are = made.slots; cells_are = made.cells; holds_are = made.holds }) in
    let layout = layout_by (term_of c.in_ok-expr.expr) c.args.extents (schema_fields c.in_ok-schema.schema) in
    let leaf_count = length (leaves (schema_fields c.in_ok-schema.schema)) in
    let tally : tally_of c.in_ok-counts.counts c.in_ok-heat.heat ≡ no_tally (term_of c.in_ok-expr.expr) layout leaf_count =
    grind (arith, new_tally, leaves) in (
      mapping,
      kept_zeros (term_of c.in_ok-expr.expr) c.args.extents (schema_fields c.in_ok-schema.schema) c.in_ok-blobs.blobs.items (lawful_there mapping c.laws_of.ensures.lawful) (paired_there mapping c.laws_of.ensures.paired)
          (within_copied c.args.extents c.in_ok-expr.ensures c.in_ok-schema.ensures made.fits)
          (laid_there mapping c.in_ok-blobs.ensures.laid) c.in_ok-blobs.ensures.zero c.args.mode,
      subst (λ (t : Tally). IsTallied (term_of c.in_ok-expr.expr) layout leaf_count t) (sym tally) (no_tally-tallied (term_of c.in_ok-expr.expr) layout leaf_count),
    )

pub returns-clause-table : goal.returns-clause-table
returns-clause-table c =
    let made = c.in_ok-map.ensures in
    let mapping = mapping_copied {extents = c.args.extents} c.in_ok-expr.ensures c.in_ok-schema.ensures
    (record { term_is = made.term; extents_are = made.extents; layout_is = made.layout; slots_are = made.slots; cells_are = made.cells; holds_are = made.holds }) in
    let fields = schema_fields c.in_ok-schema.schema in
    let paired = paired_there mapping c.laws_of.ensures.paired in
    zero_table (term_of c.in_ok-expr.expr) c.args.extents fields c.in_ok-blobs.blobs.items (lawful_there mapping c.laws_of.ensures.lawful) paired (within_copied c.args.extents c.in_ok-expr.ensures c.in_ok-schema.ensures made.fits)
    (laid_there mapping c.in_ok-blobs.ensures.laid) c.in_ok-blobs.ensures.zero
    ∙ ap (zeros (length (indices c.args.extents))) (paired ∙ kind_count fields ∙ ap (λ (f : Fields). length (leaves f)) c.in_ok-schema.ensures)

pub returns-clause-tally : goal.returns-clause-tally
returns-clause-tally c =
    let made = c.in_ok-map.ensures in
    let mapping = mapping_copied {extents = c.args.extents} c.in_ok-expr.ensures c.in_ok-schema.ensures
    (record { term_is = made.term; extents_are = made.extents; layout_is = made.layout; slots_are = made.slots; cells_are = made.cells; holds_are = made.holds }) in
    grind (arith, new_tally, leaves)

-- a mapping that is dropped is one still
pub invariant_of-map-in_err-expr : goal.invariant_of-map-in_err-expr
invariant_of-map-in_err-expr c = grind (arith, common_steps)

pub invariant_of-map-in_err-blobs : goal.invariant_of-map-in_err-blobs
invariant_of-map-in_err-blobs c = grind (arith, common_steps)

pub invariant_of-map-in_err-counts : goal.invariant_of-map-in_err-counts
invariant_of-map-in_err-counts c = grind (arith, common_steps)

pub invariant_of-map-in_err-schema : goal.invariant_of-map-in_err-schema
invariant_of-map-in_err-schema c = grind (arith, common_steps)

pub invariant_of-map : goal.invariant_of-map
invariant_of-map c = grind (arith, common_steps)

pub invariant_of-map-in_err-heat : goal.invariant_of-map-in_err-heat
invariant_of-map-in_err-heat c = grind (arith, common_steps)
