use Rattle.subviews.proofs.Imports.{◌≡◌, ℕ, ◌<◌, ◌≤◌, length, get_or, pos, int_div}
use Rattle.subviews.proofs.sums.divide.Given as goal

abbrev pub invariant-loop-k : goal.invariant-loop-k
invariant-loop-k l = record {
  long : length l.sums ≡ length l.fn.sums;
  done : (i : ℕ) → i < l.k → get_or l.sums i (pos 0) ≡ int_div (get_or l.fn.sums i (pos 0)) l.divisor;
  rest : (i : ℕ) → l.k ≤ i → get_or l.sums i (pos 0) ≡ get_or l.fn.sums i (pos 0);
}
