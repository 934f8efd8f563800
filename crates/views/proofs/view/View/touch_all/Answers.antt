use Rattle.views.proofs.Lemmas.{◌≡◌, ◌∙◌, ℕ, Bool, false, true, Option, length, option_map, sym, subst, ap, schema_fields, leaves, kinds_of, term_of, layout_by, leaf_cells, indices, LeafCounts, IsTallied, tally_of, counts_after, after_log, leaf_count_of, Tally, tallied, access_to, times_accesses, all_touches, log_kept, arith, kind_count, cell_count, touches_there, rows_seen, seen_logged, tallied_both}
use Rattle.views.proofs.view.View.touch_all.Goals as goal

-- the accesses to the table, by the rows and cells of its mapping
of_mapping : (c : goal.After-add_heat) (write : Bool) (times : ℕ) (counts : Option LeafCounts)
    → option_map (counts_after (times_accesses (access_to write) times c.leaf_count-leaves.result c.count-rows.result)) counts
    ≡ option_map (counts_after (times_accesses (access_to write) times (length (leaf_cells (kinds_of (schema_fields c.self.inside.map.schema)))) (length (indices c.self.inside.map.extents)))) counts
of_mapping c write times counts =
    let fields = schema_fields c.self.inside.schema in
    let cells : c.leaf_count-leaves.result ≡ length (leaf_cells (kinds_of (schema_fields c.self.inside.map.schema))) =
    c.leaf_count-leaves.ensures.value ∙ sym (cell_count c.self.invariant.0 ∙ kind_count fields) in
    let rows : c.count-rows.result ≡ length (indices c.self.inside.map.extents) = c.count-rows.ensures.rows ∙ sym c.self.invariant.0.slots_are in
    grind (arith, option_map)

-- what is counted then
counts : (c : goal.After-add_heat) → tally_of c.add_counts-2.new.counts c.add_heat.new.heat
    ≡ tallied (layout_by (term_of c.self.inside.expr) c.self.inside.extents (schema_fields c.self.inside.schema)) (tally_of c.self.inside.counts c.self.inside.heat)
    (all_touches c.args.reads c.args.writes (length (leaves (schema_fields c.self.inside.schema))) (length (indices c.self.inside.extents)))
counts c =
    let tally = tally_of c.self.inside.counts c.self.inside.heat in
    let middle = tally_of c.add_counts.new.counts c.add_heat.new.heat in
    let new = tally_of c.add_counts-2.new.counts c.add_heat.new.heat in
    let cells = length (leaf_cells (kinds_of (schema_fields c.self.inside.map.schema))) in
    let rows = length (indices c.self.inside.map.extents) in
    tallied_both _ tally (times_accesses (access_to false) c.args.reads cells rows) (times_accesses (access_to true) c.args.writes cells rows) middle.counts new.counts new.heat
    (c.add_counts.ensures.counted ∙ of_mapping c false c.args.reads tally.counts) (c.add_counts-2.ensures.counted ∙ of_mapping c true c.args.writes middle.counts) c.add_heat.ensures
    ∙ touches_there c.self.invariant.0 tally c.args.reads c.args.writes

pub invariant_of-self : goal.invariant_of-self
invariant_of-self c =
    let a = c.self.inside in
    let layout = layout_by (term_of a.expr) a.extents (schema_fields a.schema) in (
      c.self.invariant.0,
      c.self.invariant.1,
      subst (λ (t : Tally). IsTallied (term_of a.expr) layout (length (leaves (schema_fields a.schema))) t) (sym (counts c)) (log_kept (tally_of a.counts a.heat) _ c.self.invariant.2),
    )

pub returns : goal.returns
returns c =
    let a = c.self.inside in
    let old = c.args.self.now in
    seen_logged c.self.invariant.1 c.self.view_is _ (tally_of c.add_counts-2.new.counts c.add_heat.new.heat) (counts c)
    ∙ ap (λ (n : ℕ). after_log old (all_touches c.args.reads c.args.writes n (length (indices a.extents)))) (ap leaf_count_of c.self.view_is)
    ∙ ap (λ (n : ℕ). after_log old (all_touches c.args.reads c.args.writes (leaf_count_of old) n)) (sym (rows_seen c.self.invariant.1 c.self.view_is))
