use Rattle.subviews.proofs.Imports.{◌≡◌, ℕ, ◌<◌, ◌≤◌, ◌+ℤ◌, ◌*ℤ◌, length, get_or, pos}
use Rattle.subviews.proofs.sums.add_times.Given as goal

abbrev pub invariant-loop-k : goal.invariant-loop-k
invariant-loop-k l = record {
  long : length l.sums ≡ length l.fn.sums;
  done : (i : ℕ) → i < l.k → get_or l.sums i (pos 0) ≡ get_or l.fn.sums i (pos 0) +ℤ l.weight *ℤ get_or l.read i (pos 0);
  rest : (i : ℕ) → l.k ≤ i → get_or l.sums i (pos 0) ≡ get_or l.fn.sums i (pos 0);
}
