use Rattle.expr_lang.proofs.Imports.{◌≡◌, ℕ, ◌<◌, ◌≤◌, length, get_or, pos, neg_ℤ}
use Rattle.expr_lang.proofs.operators.negate.Given as goal

abbrev pub invariant-loop-k : goal.invariant-loop-k
invariant-loop-k l = record {
  long : length l.values ≡ length l.fn.values;
  done : (i : ℕ) → i < l.k → get_or l.values i (pos 0) ≡ neg_ℤ (get_or l.fn.values i (pos 0));
  rest : (i : ℕ) → l.k ≤ i → get_or l.values i (pos 0) ≡ get_or l.fn.values i (pos 0);
}
