use Rattle.piece_bits.proofs.Lemmas.{◌≡◌, ◌+ℤ◌, ◌*ℤ◌, get_or, ◌∙◌, arith, beside}
use Rattle.piece_bits.proofs.plain.times_plus.Goals as goal

pub multiple_plus-requires : goal.multiple_plus-requires
multiple_plus-requires g c =
    let value = g.T.Number.value in
    let fits = g.T.Number.fits in
    let factor = value c.args.factor in
    let i = c.loop-at.at in
    let x = c.index-values-at.result in
    let y = c.index-added-at.result in
    let is : x ≡ get_or c.args.values.now i x = c.index-values-at.is ∙ c.loop-at.invariant.rest i x (omega arith) in
    let both = beside (λ v w. fits (factor *ℤ value v) × fits (factor *ℤ value v +ℤ value w)) c.args.values.now c.args.added.now i x y (omega arith) (omega arith) c.requires.fit in
    let these : fits (factor *ℤ value x) × fits (factor *ℤ value x +ℤ value y) = rw (is, c.index-added-at.is) both in
    record { product = these.0; sum = these.1 }
