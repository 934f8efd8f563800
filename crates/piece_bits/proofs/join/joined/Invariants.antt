-- the pieces so far as one
use Rattle.piece_bits.proofs.Imports.{◌∷◌, drop, Carries}
use Rattle.piece_bits.proofs.join.joined.Given as goal

abbrev pub invariant-loop-next : goal.invariant-loop-next
invariant-loop-next l = Carries l.pieces (l.one ∷ drop l.next-index l.rest)
