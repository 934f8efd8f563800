use Rattle.views.proofs.Imports.{◌≡◌, take, blob_lengths}
use Rattle.views.proofs.fresh.blob_lengths.Given as goal

abbrev pub invariant-loop-blob : goal.invariant-loop-blob
invariant-loop-blob g l = l.lengths.items ≡ blob_lengths (take l.blob (g.M.Mapping.layout l.mapping))
