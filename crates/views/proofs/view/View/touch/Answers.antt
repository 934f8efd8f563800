use Rattle.views.proofs.Lemmas.{◌≡◌, ◌∙◌, ◌∷◌, length, sym, subst, arith, schema_fields, leaves, term_of, layout_by, IsTallied, tally_of, Tally, after_access, access_to, tallied_kept, tallied-one, common_steps, [], kind_count, tallied_here, touched_there, seen_logged, leaf_seen, rows_there, leaves_there, touched_both, leaf_inside}
use Rattle.views.proofs.view.View.touch.Goals as goal
use Rattle.views.proofs.view.View.touch.Goals.{After-touch_heat}

pub touch_heat-requires-clause-leaf_in : goal.touch_heat-requires-clause-leaf_in
touch_heat-requires-clause-leaf_in c = omega (arith, c.requires.leaf_in, leaves_there c.self.invariant.1 c.self.view_is c.self.invariant.0)

pub touch_heat-requires-clause-row_in : goal.touch_heat-requires-clause-row_in
touch_heat-requires-clause-row_in c = omega (arith, c.requires.row_in, rows_there c.self.invariant.1 c.self.view_is c.self.invariant.0)

pub touch_counts-requires : goal.touch_counts-requires
touch_counts-requires c = grind (arith, common_steps, leaf_inside, leaves, kind_count, leaf_seen)

pub touch_heat-requires-clause-granules : goal.touch_heat-requires-clause-granules
touch_heat-requires-clause-granules c = grind (arith, common_steps, tallied_here)

-- what is counted then
counts : (c : goal.After-touch_heat) → tally_of c.touch_counts.new.counts c.touch_heat.new.heat
    ≡ after_access (layout_by (term_of c.self.inside.expr) c.self.inside.extents (schema_fields c.self.inside.schema)) (tally_of c.self.inside.counts c.self.inside.heat) (access_to c.args.write c.args.row c.args.leaf)
counts c = grind (arith, touched_both, touched_there)

pub invariant_of-self : goal.invariant_of-self
invariant_of-self c =
    let a = c.self.inside in
    let layout = layout_by (term_of a.expr) a.extents (schema_fields a.schema) in (
      c.self.invariant.0,
      c.self.invariant.1,
      subst (λ (t : Tally). IsTallied (term_of a.expr) layout (length (leaves (schema_fields a.schema))) t) (sym (counts (goal.at.invariant_of-self c).After-touch_heat))
          (tallied_kept (access_to c.args.write c.args.row c.args.leaf) c.self.invariant.2),
    )

pub returns : goal.returns
returns c =
    let a = c.self.inside in
    let access = access_to c.args.write c.args.row c.args.leaf in
    seen_logged c.self.invariant.1 c.self.view_is (access ∷ []) (tally_of c.touch_counts.new.counts c.touch_heat.new.heat)
    (counts (goal.at.returns c).After-touch_heat ∙ sym (tallied-one (layout_by (term_of a.expr) a.extents (schema_fields a.schema)) (tally_of a.counts a.heat) access))
