use Rattle.piece_bits.proofs.Lemmas.{ℕ, ◌<◌, get_or, pos, IsNoFarther}
use Rattle.piece_bits.proofs.within.are_within.Given as goal

abbrev pub invariant-loop-value : goal.invariant-loop-value
invariant-loop-value l = (k : ℕ) → k < l.value-index → IsNoFarther l.least (get_or l.values k (pos 0)) l.far
