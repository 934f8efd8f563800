use Rattle.piece_bits.proofs.Imports.{◌≡◌, take, fold, int_max}
use Rattle.piece_bits.proofs.plain.greatest.Given as goal

abbrev pub invariant-loop-value : goal.invariant-loop-value
invariant-loop-value g l = g.T.Number.value l.greatest ≡ fold (λ greatest x. int_max greatest (g.T.Number.value x)) (g.T.Number.value l.fn.start) (take l.value-index l.values)
