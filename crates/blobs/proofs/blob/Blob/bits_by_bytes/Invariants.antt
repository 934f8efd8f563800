use Rattle.blobs.proofs.Imports.{◌≡◌, ◌+◌, ◌-◌, ◌≤◌, number, bit_of}
use Rattle.blobs.proofs.blob.Blob.bits_by_bytes.Given as goal

abbrev pub invariant-loop-done : goal.invariant-loop-done
invariant-loop-done l = (l.done ≤ l.n) × (l.value ≡ number (λ k. bit_of l.self (l.at + k)) l.done)

abbrev pub decreases-loop-done : goal.decreases-loop-done
decreases-loop-done l = l.n - l.done
