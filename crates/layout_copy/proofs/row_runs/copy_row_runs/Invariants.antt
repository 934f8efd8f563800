-- the rows so far are copied
use Rattle.layout_copy.proofs.Imports.{◌≡◌, ◌+◌, ◌-◌, ◌*◌, ◌≤◌, length, with_rows, leaf_count_of, AreBefore}
use Rattle.layout_copy.proofs.row_runs.copy_row_runs.Given as goal

abbrev pub invariant-loop-first : goal.invariant-loop-first
invariant-loop-first g l = record {
  source : l.source ≡ l.initial.source;
  same : l.target ≡ with_rows l.initial.target l.target.rows;
  inside : l.first ≤ l.count;
  before : AreBefore (leaf_count_of l.initial.target) l.first l.initial.source.rows l.target.rows;
  steps : l.steps ≤ l.initial.steps + 2 * (l.first * leaf_count_of l.initial.source);
  buffer : length l.buffer ≡ 256;
}

abbrev pub decreases-loop-first : goal.decreases-loop-first
decreases-loop-first g l = l.count - l.first
