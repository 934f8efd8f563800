use Rattle.piece_bits.proofs.Lemmas.{◌+ℤ◌, ◌*ℤ◌, zip2, IsReplaced}
use Rattle.piece_bits.proofs.plain.times_plus.Given as goal

abbrev pub invariant-loop-at : goal.invariant-loop-at
invariant-loop-at g l =
    let value = g.T.Number.value in
    IsReplaced value (zip2 (λ x y. value l.factor *ℤ value x +ℤ value y) l.initial.values l.added) l.initial.values l.values l.at
