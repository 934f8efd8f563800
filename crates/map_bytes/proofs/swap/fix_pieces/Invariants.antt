-- the pieces so far
use Rattle.map_bytes.proofs.Imports.{◌≡◌, take, pieces_in}
use Rattle.map_bytes.proofs.swap.fix_pieces.Given as goal

abbrev pub invariant-loop-piece : goal.invariant-loop-piece
invariant-loop-piece l = pieces_in l.rules.items 0 ≡ take l.piece-index l.pieces.items
