use Rattle.advisor.proofs.Imports.{◌≡◌, ◌+◌, ◌^◌, take, granules_in, blob_lengths}
use Rattle.advisor.proofs.touched.has_few_granules.Given as goal

abbrev pub invariant-loop-blob : goal.invariant-loop-blob
invariant-loop-blob g l = l.left + granules_in l.granule (take l.blob (blob_lengths (g.M.Mapping.layout l.mapping))) ≡ 2 ^ 24
