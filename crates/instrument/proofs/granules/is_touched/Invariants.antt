use Rattle.instrument.proofs.Imports.{◌≡◌, false, take, is_touched}
use Rattle.instrument.proofs.granules.is_touched.Given as goal

abbrev pub invariant-loop-piece : goal.invariant-loop-piece
invariant-loop-piece l = is_touched l.granule (take l.piece-index l.pieces) l.blob l.number ≡ false
