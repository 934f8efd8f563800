use Rattle.lane_kernels.proofs.Imports.{◌≡◌, ◌+◌, ◌-◌, ◌*◌, ◌≤◌, false, length, IsAt, cost, row_cost, AreDone}
use Rattle.lane_kernels.proofs.plain.run_rows.Given as goal

abbrev pub invariant-loop-row : goal.invariant-loop-row
invariant-loop-row g l = record {
  done : AreDone l.fn.view l.kernel l.view l.row l.number;
  inside : l.row ≤ length l.fn.view.rows;
  at : l.uncounted ≡ false → IsAt l.lanes (length l.fn.view.rows) l.row;
  spent : l.steps + row_cost l.kernel * cost l.uncounted l.lanes (length l.fn.view.rows - l.row) ≡ l.fn.steps + row_cost l.kernel * cost l.uncounted l.lanes (length l.fn.view.rows);
}

abbrev pub decreases-loop-row : goal.decreases-loop-row
decreases-loop-row g l = l.count - l.row
