use Rattle.c_lines.proofs.Imports.{◌≡◌, ◌-◌, ◌*◌, ◌≤◌, length, take, bytes_of_numbers, run_of, after_run}
use Rattle.c_lines.proofs.caller_bytes.read_bytes.Given as goal

abbrev pub invariant-loop-done : goal.invariant-loop-done
invariant-loop-done g l = record {
  inside : l.done ≤ l.count;
  room : length l.bytes ≡ length l.initial.bytes;
  read : take (l.size * l.done) l.bytes ≡ bytes_of_numbers l.size (run_of l.leaf l.first l.done l.fn.view);
  log : l.view ≡ after_run l.first l.done l.leaf l.fn.view;
}

abbrev pub decreases-loop-done : goal.decreases-loop-done
decreases-loop-done g l = l.count - l.done
