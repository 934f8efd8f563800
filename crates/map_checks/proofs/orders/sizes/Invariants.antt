-- the extents so far are written
use Rattle.map_checks.proofs.Imports.{◌≡◌, ℕ, ◌<◌, get_or, length}
use Rattle.map_checks.proofs.orders.sizes.Given as goal

abbrev pub invariant-loop-d : goal.invariant-loop-d
invariant-loop-d g l = (length l.sizes ≡ length l.extents) × ((k : ℕ) → k < l.d → get_or l.sizes k 0 ≡ get_or l.extents k 0)
