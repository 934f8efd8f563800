use Rattle.expr_lang.proofs.Imports.{◌≡◌, ℕ, ◌<◌, ◌≤◌, length, get_or, pos, exact_by}
use Rattle.expr_lang.proofs.operators.each_number.Given as goal

abbrev pub invariant-loop-k : goal.invariant-loop-k
invariant-loop-k l = record {
  long : length l.left ≡ length l.fn.left;
  done : (i : ℕ) → i < l.k → get_or l.left i (pos 0) ≡ exact_by l.op (get_or l.fn.left i (pos 0)) l.right;
  rest : (i : ℕ) → l.k ≤ i → get_or l.left i (pos 0) ≡ get_or l.fn.left i (pos 0);
}
