use Rattle.views.proofs.Lemmas.{◌<◌, ◌≤◌, ◌∙◌, length, refl, ap, arith, rules, w64, w128, to_z-of_z, low_64, run_read, no_row, row_more}
use Rattle.views.proofs.view.View.read_far.Goals as goal

pub loop-k-init : goal.loop-k-init
loop-k-init c = no_row c.args.leaf c.args.first c.args.self.now c.args.values.now c.args.values.now refl

pub loop-k-preserved : goal.loop-k-preserved
loop-k-preserved c =
    let inside : c.loop-k.k < length c.args.values.now = omega (arith, c.loop-k.invariant.count) in
    row_more c.args.leaf c.args.first c.loop-k.k c.row_after-row.result c.args.self.now c.loop-k.self c.value.new.self c.args.values.now c.loop-k.values _ c.loop-k.invariant c.row_after-row.ensures inside
    (to_z-of_z w64 c.low_of.result (search rules) ∙ c.low_of.ensures ∙ ap low_64 (to_z-of_z w128 c.value.result (search rules) ∙ c.value.ensures.value)) c.value.ensures.same

pub returns-clause-values : goal.returns-clause-values
returns-clause-values c =
    let end : length c.args.values.now ≤ c.loop-k.k = omega (arith, c.loop-k.invariant.count) in
    run_read c.args.leaf c.args.first c.args.self.now.rows c.args.values.now c.loop-k.values c.loop-k.invariant.count c.requires.rows_in (λ k l. c.loop-k.invariant.each k (omega (arith, l, end)))
