use Rattle.blobs.proofs.Imports.{◌≡◌, ℕ, ◌<◌, get_or, slots_items, slots_filled, SamePlaces, Filled}
use Rattle.blobs.proofs.blob.Blob.zeroed.Given as goal

-- the zeros so far
abbrev pub invariant-loop-at : goal.invariant-loop-at
invariant-loop-at l = SamePlaces l.initial.places l.places × ((k : ℕ) → k < l.at → get_or (slots_items l.places) k 0 ≡ 0) × Filled (slots_filled l.places) 0 l.at
