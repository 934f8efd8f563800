use Rattle.views.proofs.KeptLaws.{AreFresh}
use Rattle.views.proofs.fresh.zeroed_blobs.Given as goal

abbrev pub invariant-loop-blob : goal.invariant-loop-blob
invariant-loop-blob g l = AreFresh (g.M.Mapping.layout l.mapping) l.blob l.blobs.items
