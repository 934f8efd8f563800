use Rattle.piece_bits.proofs.Lemmas.{ap, ◌∙◌, arith, int_min, int_max, mapped}
use Rattle.piece_bits.proofs.plain.clamp.Goals as goal

pub loop-value-preserved : goal.loop-value-preserved
loop-value-preserved g c =
    let value = g.T.Number.value in
    let exact = g.met.T.Integral.exact_law in
    mapped value (λ x. int_max (value c.args.lo) (int_min (value x) (value c.args.hi))) c.args.values.now c.loop-value.values c.loop-value.value-index
    c.value-item.result c.clamp_min.result (omega arith) (omega arith) c.loop-value.invariant
    (c.clamp_min.ensures.value exact ∙ ap (int_max (value c.args.lo)) (c.clamp_max.ensures.value exact))
