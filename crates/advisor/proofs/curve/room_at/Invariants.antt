use Rattle.advisor.proofs.Imports.{ℕ, ◌+◌, ◌<◌, ◌≤◌, length, get_or, component}
use Rattle.advisor.proofs.curve.room_at.Given as goal

abbrev pub invariant-loop-d : goal.invariant-loop-d
invariant-loop-d l = record {
  some : 0 < l.room;
  within : (k : ℕ) → k < l.d → component (length l.extents) l.slot k + l.room ≤ get_or l.extents k 0;
}
