use Rattle.row_updates.proofs.Imports.{◌≡◌, ℕ, ◌<◌, get_or, pos}
use Rattle.row_updates.proofs.runs.fill.Given as goal

abbrev pub invariant-loop-k : goal.invariant-loop-k
invariant-loop-k l = (i : ℕ) → i < l.k → get_or l.values i (pos 0) ≡ l.number
