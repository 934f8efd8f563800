use Rattle.piece_bits.proofs.Lemmas.{map, int_min, int_max, IsReplaced}
use Rattle.piece_bits.proofs.plain.clamp.Given as goal

abbrev pub invariant-loop-value : goal.invariant-loop-value
invariant-loop-value g l =
    let value = g.T.Number.value in
    IsReplaced value (map (λ x. int_max (value l.lo) (int_min (value x) (value l.hi))) l.initial.values) l.initial.values l.values l.value-index
