-- those of the next so far
use Rattle.map_bytes.proofs.Imports.{◌≡◌, ◌++◌, take}
use Rattle.map_bytes.proofs.join.join_pieces.Given as goal

abbrev pub invariant-loop-piece : goal.invariant-loop-piece
invariant-loop-piece l = l.pieces.items ≡ l.initial.pieces.items ++ take l.piece-index l.next.items
