use Rattle.views.proofs.Imports.{ℕ, ◌≡◌, length, take, sum_by}
use Rattle.views.proofs.view.View.blob_bytes.Given as goal

abbrev pub invariant-loop-blob : goal.invariant-loop-blob
invariant-loop-blob l = l.bytes ≡ sum_by (length {A = ℕ}) (take l.blob-index l.blob-items)
