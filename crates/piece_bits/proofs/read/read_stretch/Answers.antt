use Rattle.piece_bits.proofs.Lemmas.{◌∙◌, refl, rules, FitsSigned, w64, arith, to_z-of_z, one_more, same_number}
use Rattle.piece_bits.proofs.read.read_stretch.Goals as goal

pub loop-k-preserved : goal.loop-k-preserved
loop-k-preserved c =
    let k = c.loop-k.k in
    let fits : FitsSigned w64 c.number_at.result = search rules in
    one_more c.args.short.now c.args.stretch.now c.args.blob.now c.args.at k _ c.loop-k.values _ c.loop-k.invariant (omega (arith, c.loop-k.invariant.count))
    (same_number c.args.short.now c.args.stretch.now c.args.blob.now k c.place-place.result c.args.short.now.word _ refl c.place-place.ensures (to_z-of_z w64 c.number_at.result fits ∙ c.number_at.ensures))
