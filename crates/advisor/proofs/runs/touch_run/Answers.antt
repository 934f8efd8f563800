use Rattle.advisor.proofs.Lemmas.{◌≡◌, ◌-◌, ◌∷◌, [], List, slice_index_or, sym, ap, ◌∙◌, subst, arith, Piece, is_in_granule, HeatCounts, heat_counts, heated_by, inside-counted, is_run_touched, long_piece, IsWarmed, or-false, common_steps, long_ends, long_is, long_inside, long_touches, heated_warmed, warmed_alike}
use Rattle.advisor.proofs.runs.touch_run.Goals as goal

pub overflow_sub-bits : goal.overflow_sub-bits
overflow_sub-bits c =
    let ends = long_ends c.args.heat.now.granule c.args.rule.now c.args.start c.args.count c.args.heat.now.some c.requires.steady c.requires.some in
    let first = ap (λ (p : Piece). p.bit) c.piece-first.ensures in
    let last = ap (λ (p : Piece). p.bit) c.piece-last.ensures in
    omega (arith, ends, first, last)

pub touch-requires : goal.touch-requires
touch-requires c = grind (arith, common_steps, long_ends, long_is, inside-counted, long_inside, slice_index_or)

pub returns : goal.returns
returns c =
    let heat = heat_counts c.args.heat.now in
    let rule = c.args.rule.now in
    let start = c.args.start in
    let count = c.args.count in
    let long = long_piece rule start count in
    let one = long_is rule start count c.from.result c.piece-first.result c.piece-last.result c.piece-first.ensures c.piece-last.ensures c.from.ensures in
    let pieces : c.push.new.self.items ≡ long ∷ [] = grind arith in
    let after : heat_counts c.touch.new.self ≡ heated_by (long ∷ []) heat = c.touch.ensures ∙ ap (λ (xs : List Piece). heated_by xs heat) pieces in
    let first = c.requires.inside (count - 1) (omega (arith, c.requires.some)) in
    subst (λ (h : HeatCounts). IsWarmed heat h (is_run_touched heat.granule rule start count)) (sym after)
    (warmed_alike (heated_warmed (long ∷ []) heat) (λ blob at.
    or-false (is_in_granule heat.granule blob at long) ∙ long_touches heat.granule rule start count c.args.heat.now.some c.requires.steady c.requires.some first.some blob at))
