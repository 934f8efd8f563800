-- the pieces so far
use Rattle.piece_bits.proofs.Imports.{ℕ, ◌-◌, ◌<◌, length, get_or, PieceRule, IsTurnedByte}
use Rattle.piece_bits.proofs.bytes.are_turned.Given as goal

abbrev pub invariant-loop-k : goal.invariant-loop-k
invariant-loop-k l = (j : ℕ) (d : PieceRule) → j < l.k → IsTurnedByte l.last (length l.pieces - 1 - j) (get_or l.pieces j d)
