use Rattle.blob_file.proofs.Imports.{◌≡◌, ◌+◌, ◌<◌, ℕ, length, get_or}
use Rattle.blob_file.proofs.save.copy_out.Given as goal

abbrev pub invariant-loop-at : goal.invariant-loop-at
invariant-loop-at l = record {
  count : length l.bytes ≡ length l.initial.bytes;
  same : (k : ℕ) → k < l.at → get_or l.bytes k 0 ≡ get_or l.blob (l.from + k) 0;
}
