use Rattle.extents.proofs.Imports.{IsIndexSoFar}
use Rattle.extents.proofs.rows.Extents.index_of.Given as goal

abbrev pub invariant-loop-size : goal.invariant-loop-size
invariant-loop-size l = IsIndexSoFar l.self l.row l.size-index l.index.items l.left l.block
