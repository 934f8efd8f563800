-- the bits so far
use Rattle.leaf_places.proofs.Imports.{ℕ, ◌≡◌, ◌<◌, spots_of, spot_at, bit_by}
use Rattle.leaf_places.proofs.sought.Sought.is_from.Given as goal

abbrev pub invariant-loop-k : goal.invariant-loop-k
invariant-loop-k l = (j : ℕ) → j < l.k → spot_at (spots_of l.pieces) j ≡ (l.first.blob, bit_by l.self.is_turned l.first.bit l.self.width j)
