use Rattle.lane_kernels.proofs.Imports.{◌≡◌, ℤ, [], ◌∷◌, Some, None, FitsSigned, to_z, of_z, map, sym, ap, subst, ◌∙◌, arith, w128, to_z-of_z, raised, reduced_by, with_more, CanAdd, common_steps}
use Rattle.lane_kernels.proofs.LeafRuns.{narrow_raised}
use Rattle.lane_kernels.proofs.Reductions.{none_before, plain_more, joined, narrow_can_add, joined_can_add}
use Rattle.lane_kernels.proofs.reduce.with_run.Goals as goal
use Rattle.lane_kernels.proofs.reduce.with_run.Goals.{After-from}

pub with_more-requires-2 : goal.with_more-requires-2
with_more-requires-2 c = grind (arith, common_steps, narrow_can_add)

-- what the run alone gives, in 64 bits and in 128
given : (c : After-from) → Some c.in-Some.run' ≡ reduced_by c.args.form c.args.lows.now
given c = sym c.in-Some.is ∙ plain_more c.args.form c.with_more-2.result None c.args.lows.now c.with_more-2.ensures ∙ none_before c.args.form c.args.lows.now

widened : (c : After-from) → to_z w128 (of_z w128 c.from.result) ≡ c.in-Some.run'
widened c = grind (arith, to_z-of_z)

-- the values are their low bits
lows_are : (c : After-from) → map (raised c.args.kind) c.args.lows.now ≡ c.args.lows.now
lows_are c = narrow_raised c.args.kind c.args.lows.now (omega (arith, c.if-width-gt32.false, c.width.ensures))

pub with_more-requires-in-Some : goal.with_more-requires-in-Some
with_more-requires-in-Some c =
    let at = (goal.at.with_more-requires-in-Some c).After-from in
    let fits : ℤ → Type 0 = λ z. FitsSigned w128 z in
    let form = c.args.form in
    let number = c.args.number in
    let lows = c.args.lows.now in
    subst (λ (z : ℤ). CanAdd (λ z. z) fits form number (z ∷ [])) (sym (widened at))
    (joined_can_add fits form number lows c.in-Some.run' (given at) (subst (CanAdd (λ z. z) fits form number) (lows_are at) c.requires.fit))

pub returns-in-Some : goal.returns-in-Some
returns-in-Some c =
    let at = (goal.at.returns-in-Some c).After-from in
    let form = c.args.form in
    let number = c.args.number in
    let lows = c.args.lows.now in
    plain_more form c.with_more-in-Some.result number (to_z w128 (of_z w128 c.from.result) ∷ []) c.with_more-in-Some.ensures
    ∙ ap (λ (z : ℤ). with_more form number (z ∷ [])) (widened at) ∙ joined form number lows c.in-Some.run' (given at)
    ∙ ap (with_more form number) (sym (lows_are at))
