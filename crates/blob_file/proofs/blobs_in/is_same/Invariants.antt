use Rattle.blob_file.proofs.Imports.{◌≡◌, ◌<◌, ℕ, true, false, get_or}
use Rattle.blob_file.proofs.blobs_in.is_same.Given as goal

abbrev pub invariant-loop-at : goal.invariant-loop-at
invariant-loop-at l = record {
  same : l.same ≡ true → (k : ℕ) → k < l.at → get_or l.one k 0 ≡ get_or l.other k 0;
  apart : l.same ≡ false → l.one ≡ l.other → ⊥;
}
