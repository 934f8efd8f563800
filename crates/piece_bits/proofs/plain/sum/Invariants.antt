use Rattle.piece_bits.proofs.Imports.{◌≡◌, ◌+ℤ◌, take, fold}
use Rattle.piece_bits.proofs.plain.sum.Given as goal

abbrev pub invariant-loop-value : goal.invariant-loop-value
invariant-loop-value g l = g.T.Number.value l.sum ≡ fold (λ sum x. sum +ℤ g.T.Number.value x) (g.T.Number.value l.fn.start) (take l.value-index l.values)
