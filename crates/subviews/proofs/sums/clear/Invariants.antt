use Rattle.subviews.proofs.Imports.{◌≡◌, ℕ, ◌<◌, length, get_or, pos}
use Rattle.subviews.proofs.sums.clear.Given as goal

abbrev pub invariant-loop-k : goal.invariant-loop-k
invariant-loop-k l = record {
  long : length l.sums ≡ length l.fn.sums;
  done : (i : ℕ) → i < l.k → get_or l.sums i (pos 0) ≡ pos 0;
}
