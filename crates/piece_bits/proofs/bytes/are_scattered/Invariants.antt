-- the pieces so far
use Rattle.piece_bits.proofs.Imports.{ℕ, ◌<◌, get_or, PieceRule, IsScatteredByte}
use Rattle.piece_bits.proofs.bytes.are_scattered.Given as goal

abbrev pub invariant-loop-piece : goal.invariant-loop-piece
invariant-loop-piece l = (j : ℕ) (d : PieceRule) → j < l.piece-index → IsScatteredByte l.first (get_or l.pieces j d)
