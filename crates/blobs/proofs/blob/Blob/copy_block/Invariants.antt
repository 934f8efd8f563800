-- the bytes so far are copied
use Rattle.blobs.proofs.Imports.{◌≡◌, ℕ, ◌+◌, ◌<◌, length, get_or}
use Rattle.blobs.proofs.blob.Blob.copy_block.Given as goal

abbrev pub invariant-loop-k : goal.invariant-loop-k
invariant-loop-k l = record {
  long : length l.block ≡ 64;
  copied : (j : ℕ) → j < l.k → get_or l.block j 0 ≡ get_or l.source (l.from + j) 0;
}
