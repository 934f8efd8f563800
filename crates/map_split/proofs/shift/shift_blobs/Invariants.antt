-- the pieces so far
use Rattle.map_split.proofs.Imports.{◌≡◌, map, take, shifted}
use Rattle.map_split.proofs.shift.shift_blobs.Given as goal

abbrev pub invariant-loop-piece : goal.invariant-loop-piece
invariant-loop-piece l = l.pieces.items ≡ map (shifted l.by) (take l.piece-index l.inner.items)
