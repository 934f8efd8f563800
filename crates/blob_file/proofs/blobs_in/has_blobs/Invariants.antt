use Rattle.blob_file.proofs.Imports.{◌≡◌, ◌<◌, ℕ, [], get_or, blobs_of}
use Rattle.blob_file.proofs.blobs_in.has_blobs.Given as goal

abbrev pub invariant-loop-b : goal.invariant-loop-b
invariant-loop-b l = (k : ℕ) → k < l.b → get_or (blobs_of l.view) k [] ≡ get_or l.blobs k []
