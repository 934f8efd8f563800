use Rattle.lane_kernels.proofs.Imports.{◌≡◌, ◌+◌, ◌-◌, ◌≤◌, length, run_steps, leaf_type_of}
use Rattle.lane_kernels.proofs.LeafRuns.{AreReduced}
use Rattle.lane_kernels.proofs.reduce.reduce_leaf.Given as goal

abbrev pub invariant-loop-row : goal.invariant-loop-row
invariant-loop-row g l =
    let kind = leaf_type_of l.fn.view l.leaf in
    let count = length l.fn.view.rows in
    record {
      done : AreReduced l.fn.view l.form l.leaf l.view l.row l.number;
      inside : l.row ≤ count;
      lows : length l.lows ≡ 256;
      values : length l.values ≡ 256;
      spent : l.steps + run_steps kind (count - l.row) ≡ l.fn.steps + run_steps kind count;
    }

abbrev pub decreases-loop-row : goal.decreases-loop-row
decreases-loop-row g l = l.count - l.row
