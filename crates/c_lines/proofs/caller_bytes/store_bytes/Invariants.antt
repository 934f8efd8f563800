use Rattle.c_lines.proofs.Imports.{◌≡◌, ◌+◌, ◌-◌, ◌≤◌, length, drop, Table, Answer, leaf_count_of, IsSet, numbers_in}
use Rattle.c_lines.proofs.caller_bytes.store_bytes.Given as goal

abbrev pub invariant-loop-done : goal.invariant-loop-done
invariant-loop-done g l = record {
  inside : l.done ≤ l.count;
  rows : length l.view.rows ≡ length l.initial.view.rows;
  leaves : leaf_count_of l.view ≡ leaf_count_of l.initial.view;
  whole : (new : Table) (answer : Answer (Unit {0})) → IsSet (l.first + l.done) l.leaf (drop l.done (numbers_in g.N.Number64.sign l.size l.count l.bytes)) l.view new answer
      → IsSet l.first l.leaf (numbers_in g.N.Number64.sign l.size l.count l.bytes) l.initial.view new answer;
}

abbrev pub decreases-loop-done : goal.decreases-loop-done
decreases-loop-done g l = l.count - l.done
