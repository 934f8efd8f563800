-- what the fields that are left say is what all fields say
use Rattle.record_dim.proofs.Imports.{◌≡◌, ◌≤◌, ◌+◌, min, length, size-FieldList, fields_of, leaves}
use Rattle.record_dim.proofs.checks.+count.Given as goal

abbrev pub decreases-count_leaves : goal.decreases-count_leaves
decreases-count_leaves l = goal.size-count_leaves l

abbrev pub decreases-count_leaves_below : goal.decreases-count_leaves_below
decreases-count_leaves_below l = goal.size-count_leaves_below l

abbrev pub invariant-count_leaves_below-loop-left : goal.invariant-count_leaves_below-loop-left
invariant-count_leaves_below-loop-left l = record {
  no_deeper : size-FieldList l.left ≤ size-FieldList l.initial.left;
  small : l.count ≤ 65;
  same : min 65 (l.count + length (leaves (fields_of l.left))) ≡ min 65 (length (leaves (fields_of l.fields)));
}
