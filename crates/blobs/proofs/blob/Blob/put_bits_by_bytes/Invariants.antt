use Rattle.blobs.proofs.Imports.{ℕ, ◌≡◌, ◌+◌, ◌-◌, ◌<◌, ◌≤◌, length, bit_at, bit_of}
use Rattle.blobs.proofs.blob.Blob.put_bits_by_bytes.Given as goal

abbrev pub invariant-loop-done : goal.invariant-loop-done
invariant-loop-done l = record {
  so_far : l.done ≤ l.n;
  len : length l.self ≡ length l.initial.self;
  inside : (k : ℕ) → k < l.done → bit_of l.self (l.at + k) ≡ bit_at l.value k;
  before : (k : ℕ) → k < l.at → bit_of l.self k ≡ bit_of l.initial.self k;
  after : (k : ℕ) → l.at + l.done ≤ k → bit_of l.self k ≡ bit_of l.initial.self k;
}

abbrev pub decreases-loop-done : goal.decreases-loop-done
decreases-loop-done l = l.n - l.done
