-- the leaves so far are copied
use Rattle.layout_copy.proofs.Imports.{◌≡◌, ◌+◌, ◌*◌, ◌≤◌, length, with_rows, AreRowsMoved}
use Rattle.layout_copy.proofs.row_runs.copy_leaves.Given as goal

abbrev pub invariant-loop-leaf : goal.invariant-loop-leaf
invariant-loop-leaf g l = record {
  source : l.source ≡ l.initial.source;
  same : l.target ≡ with_rows l.initial.target l.target.rows;
  count : length l.buffer ≡ length l.initial.buffer;
  moved : AreRowsMoved l.leaf l.first (length l.initial.buffer) l.initial.source.rows l.initial.target.rows l.target.rows;
  steps : l.steps ≤ l.initial.steps + 2 * (length l.initial.buffer * l.leaf);
}
