-- what the fields that are left say is what all fields say
use Rattle.record_dim.proofs.Imports.{◌≡◌, ◌≤◌, nat_le, size-FieldList, fields_of, greatest_depth}
use Rattle.record_dim.proofs.checks.+within.Given as goal

abbrev pub decreases-is_within : goal.decreases-is_within
decreases-is_within l = goal.size-is_within l

abbrev pub decreases-are_within : goal.decreases-are_within
decreases-are_within l = goal.size-are_within l

abbrev pub invariant-are_within-loop-left : goal.invariant-are_within-loop-left
invariant-are_within-loop-left l = record {
  no_deeper : size-FieldList l.left ≤ size-FieldList l.initial.left;
  same : nat_le (greatest_depth (fields_of l.left)) l.most ≡ nat_le (greatest_depth (fields_of l.fields)) l.most;
}
