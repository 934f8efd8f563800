use Rattle.advisor.proofs.Lemmas.{◌+◌, sym, subst, heat_counts, IsInside, piece_in, PieceRule, warmed_inside}
use Rattle.advisor.proofs.runs.touch_slots.Goals as goal

pub touch_rule-requires-clause-inside : goal.touch_rule-requires-clause-inside
touch_rule-requires-clause-inside c = λ k low.
    let heat = heat_counts c.args.heat.now in
    let rule = c.rule-item.result in
    let slot = c.args.start + k in
    warmed_inside c.loop-rule.invariant (piece_in rule slot)
    (subst (λ (r : PieceRule). IsInside heat (piece_in r slot)) (sym c.rule-item.is) (c.requires.inside k low c.loop-rule.rule-index rule c.loop-rule-test.true))
