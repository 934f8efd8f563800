use Rattle.blob_file.proofs.Lemmas.{blob_lengths, AreCut}
use Rattle.blob_file.proofs.blobs_in.cut_blobs.Given as goal

abbrev pub invariant-loop-b : goal.invariant-loop-b
invariant-loop-b g l = AreCut (blob_lengths (g.M.Mapping.layout l.map)) l.body l.b l.blobs.items l.rest
