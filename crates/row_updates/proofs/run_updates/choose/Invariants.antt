use Rattle.row_updates.proofs.Imports.{◌≡◌, ℕ, ◌<◌, ◌≤◌, cond, get_or, length, pos, is_true}
use Rattle.row_updates.proofs.run_updates.choose.Given as goal

abbrev pub invariant-loop-k : goal.invariant-loop-k
invariant-loop-k l = record {
  long : length l.values ≡ length l.fn.values;
  done : (i : ℕ) → i < l.k → get_or l.values i (pos 0) ≡ cond (is_true (get_or l.mask i (pos 0))) (get_or l.fn.values i (pos 0)) (get_or l.others i (pos 0));
  rest : (i : ℕ) → l.k ≤ i → get_or l.values i (pos 0) ≡ get_or l.fn.values i (pos 0);
}
