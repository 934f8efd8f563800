use Rattle.row_updates.proofs.Imports.{◌≡◌, ℕ, ◌+◌, ◌<◌, ◌≤◌, get_or, slice_index, pos, index_at}
use Rattle.row_updates.proofs.runs.index_run.Given as goal

abbrev pub invariant-loop-k : goal.invariant-loop-k
invariant-loop-k l = record {
  same : (i : ℕ) → i < l.k → get_or l.values i (pos 0) ≡ pos (slice_index (index_at l.view.extents (l.first + i)) l.dimension);
  near : (i : ℕ) → i < l.k → slice_index (index_at l.view.extents (l.first + i)) l.dimension ≤ l.limit;
}
