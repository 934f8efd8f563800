use Rattle.blob_file.proofs.Imports.{◌≡◌, ◌<◌, ℕ, length, get_or}
use Rattle.blob_file.proofs.blobs_in.blob_of.Given as goal

abbrev pub invariant-loop-at : goal.invariant-loop-at
invariant-loop-at l = record {
  count : length l.blob ≡ length l.bytes;
  front : (k : ℕ) → k < l.at → get_or l.blob k 0 ≡ get_or l.bytes k 0;
}
