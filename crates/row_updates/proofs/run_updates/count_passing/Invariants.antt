use Rattle.row_updates.proofs.Imports.{◌≡◌, ◌≤◌, count_by, take, is_true}
use Rattle.row_updates.proofs.run_updates.count_passing.Given as goal

abbrev pub invariant-loop-value : goal.invariant-loop-value
invariant-loop-value l = record {
  few : l.passing ≤ l.value-index;
  so_far : l.passing ≡ count_by is_true (take l.value-index l.mask);
}
