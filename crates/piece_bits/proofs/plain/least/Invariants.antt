use Rattle.piece_bits.proofs.Imports.{◌≡◌, take, fold, int_min}
use Rattle.piece_bits.proofs.plain.least.Given as goal

abbrev pub invariant-loop-value : goal.invariant-loop-value
invariant-loop-value g l = g.T.Number.value l.least ≡ fold (λ least x. int_min least (g.T.Number.value x)) (g.T.Number.value l.fn.start) (take l.value-index l.values)
