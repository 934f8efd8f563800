-- the bits of the pieces so far are behind
use Rattle.leaf_places.proofs.Imports.{◌≡◌, ◌+◌, length, take, spots_of}
use Rattle.leaf_places.proofs.spot.spot_in.Given as goal

abbrev pub invariant-loop-piece : goal.invariant-loop-piece
invariant-loop-piece l = l.left + length (spots_of (take l.piece-index l.pieces)) ≡ l.k
