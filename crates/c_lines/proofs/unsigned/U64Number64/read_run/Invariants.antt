use Rattle.c_lines.proofs.Imports.{◌≡◌, ◌-◌, ◌≤◌, length, map, pos, take, run_of, after_run}
use Rattle.c_lines.proofs.unsigned.U64Number64.read_run.Given as goal

abbrev pub invariant-loop-done : goal.invariant-loop-done
invariant-loop-done g l = record {
  inside : l.done ≤ length l.initial.values;
  count : length l.values ≡ length l.initial.values;
  read : map (λ n. pos n) (take l.done l.values) ≡ run_of l.leaf l.first l.done l.fn.view;
  log : l.view ≡ after_run l.first l.done l.leaf l.fn.view;
}

abbrev pub decreases-loop-done : goal.decreases-loop-done
decreases-loop-done g l = length l.values - l.done
