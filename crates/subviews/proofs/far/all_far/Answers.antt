use Rattle.subviews.proofs.Lemmas.{rules, ◌+◌, ℤ, FitsSigned, w64, slice_set, sym, subst, arith, to_z-of_z, AreFar, far_more}
use Rattle.subviews.proofs.far.all_far.Goals as goal

pub loop-place-preserved : goal.loop-place-preserved
loop-place-preserved c =
    let window = c.args.window.now in
    let terms = c.args.terms.now in
    let far = c.loop-place.far in
    let k = c.loop-place.place in
    let fits : FitsSigned w64 c.far_of.result = search rules in
    let value = to_z-of_z w64 c.far_of.result fits in
    record {
      long = search rules;
      far = subst (λ (z : ℤ). AreFar window terms (slice_set far k z) (k + 1)) (sym value)
          (far_more window terms far k c.index-terms-place.result c.far_of.result (omega (arith, c.loop-place.invariant.long, c.loop-place-test.true, c.requires.few)) c.loop-place-test.true c.index-terms-place.is c.far_of.ensures c.loop-place.invariant.far);
    }

pub returns-clause-far : goal.returns-clause-far
returns-clause-far c = λ place other low. c.loop-place.invariant.far place other (omega (arith, low, c.loop-place-test.false))
