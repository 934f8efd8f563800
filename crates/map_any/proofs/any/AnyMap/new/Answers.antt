use Rattle.map_any.proofs.Lemmas.{◌≡◌, ◌∙◌, ℕ, List, Ok, false, map, refl, ap, subst, sym, schema_fields, kinds_of, Fields, Cell, Hold, Term, term_of, bad_number, leaf_cells, layout_by, accepted, not_full, IsBuiltTerm, is_counted, IsWideIn, EachWith, IsRuled, IsPlanOf, common_steps, arith, leaves_arrays, leaves_ruled, whole_holds, whole_rules, good_parts, good_number}
use Rattle.map_any.proofs.any.AnyMap.new.Goals as goal

pub leaf_rules-requires-clause-holds : goal.leaf_rules-requires-clause-holds
leaf_rules-requires-clause-holds c = grind (arith, common_steps, whole_holds)

pub leaf_rules-requires-clause-rules : goal.leaf_rules-requires-clause-rules
leaf_rules-requires-clause-rules c = grind (arith, common_steps, whole_rules)

pub invariant_of-result : goal.invariant_of-result
invariant_of-result c =
    let term : Term = term_of c.args.expr.now in
    let copy : Term = term_of c.in_ok-expr.expr in
    let fields : Fields = schema_fields c.in_ok-schema.schema in
    let extents : List ℕ = c.args.extents.now in
    let plan = c.in_ok-plan.plan in
    let ok : accepted term (schema_fields c.args.schema.now) c.in_ok-cells.cells ≡ Ok tt = c.in_ok-plan.ensures.accepted in
    let is_full : not_full term (schema_fields c.args.schema.now) c.in_ok-cells.cells ≡ false =
    good_parts term (schema_fields c.args.schema.now) c.in_ok-cells.cells ok in
    let same : copy ≡ term = c.in_ok-expr.ensures in
    let one = subst (λ (cs : List Cell). IsPlanOf term extents (schema_fields c.args.schema.now) cs plan) c.in_ok-cells.ensures c.in_ok-plan.ensures.plan in
    let two = subst (λ (f : Fields). IsPlanOf term extents f (leaf_cells (kinds_of f)) plan) (sym c.in_ok-schema.ensures) one in
    let planned : IsPlanOf copy extents fields (leaf_cells (kinds_of fields)) plan =
    subst (λ (t : Term). IsPlanOf t extents fields (leaf_cells (kinds_of fields)) plan) (sym same) two in
    record {
      built = subst IsBuiltTerm (sym same) c.requires.built;
      numbers = ap bad_number same ∙ good_number term (schema_fields c.args.schema.now) c.in_ok-cells.cells ok;
      full = grind arith;
      held = planned.held;
      sized = planned.sized;
      ruled = leaves_ruled (layout_by copy extents fields) extents (kinds_of fields) plan.holds plan.rules c.in_ok-rules.rules
          (subst (λ (hs : List Hold). IsRuled (layout_by copy extents fields) extents (map (λ (h : Hold). h.width) hs) plan.rules) (sym planned.held) planned.ruled)
          (whole_holds copy extents fields (leaf_cells (kinds_of fields)) plan planned refl)
          (grind arith);
      wide = subst (λ (ls : List ℕ). EachWith (λ k leaf. IsWideIn ls leaf) c.in_ok-rules.rules) c.as_slice-3.ensures c.in_ok-rules.ensures.wide;
      arrays = leaves_arrays copy extents (leaf_cells (kinds_of fields)) (kinds_of (schema_fields c.args.schema.now)) c.as_slice.result.now plan.rules c.in_ok-rules.rules
          (whole_rules term extents (schema_fields c.args.schema.now) c.in_ok-cells.cells plan c.in_ok-plan.ensures.plan c.in_ok-cells.ensures)
          (grind arith)
          (grind arith);
      uncounted = λ counted. c.in_ok-rules.ensures.uncounted (c.is_counted.ensures ∙ ap is_counted (sym same) ∙ counted);
    }
