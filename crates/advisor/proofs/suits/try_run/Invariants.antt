use Rattle.advisor.proofs.Lemmas.{◌≡◌, length, map, take, drop, after_log, Read, rows_accesses, tried_to}
use Rattle.advisor.proofs.suits.try_run.Given as goal

abbrev pub invariant-loop-leaf : goal.invariant-loop-leaf
invariant-loop-leaf g l = record {
  size : length l.buffer ≡ length l.initial.buffer;
  view : l.view ≡ after_log l.initial.view (rows_accesses Read l.leaf l.first (length l.initial.buffer));
  trials : l.trials ≡ map (tried_to l.initial.view.mode (take (length l.initial.buffer) (drop l.first l.initial.view.rows)) l.leaf) l.initial.trials;
}
