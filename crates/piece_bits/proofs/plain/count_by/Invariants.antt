use Rattle.piece_bits.proofs.Imports.{◌≡◌, take, count_by, compares}
use Rattle.piece_bits.proofs.plain.count_by.Given as goal

abbrev pub invariant-loop-value : goal.invariant-loop-value
invariant-loop-value g l = l.count ≡ count_by (λ x. compares l.op (g.T.Number.value x) (g.T.Number.value l.c)) (take l.value-index l.values)
