-- what the fields that are left say is what all fields say
use Rattle.record_dim.proofs.Imports.{◌≡◌, ◌≤◌, list_any, size-FieldList, fields_of, records_below, shares_name}
use Rattle.record_dim.proofs.checks.+twice.Given as goal

abbrev pub decreases-any_twice : goal.decreases-any_twice
decreases-any_twice l = goal.size-any_twice l

abbrev pub decreases-any_twice_below : goal.decreases-any_twice_below
decreases-any_twice_below l = goal.size-any_twice_below l

abbrev pub invariant-any_twice_below-loop-left : goal.invariant-any_twice_below-loop-left
invariant-any_twice_below-loop-left l = record {
  no_deeper : size-FieldList l.left ≤ size-FieldList l.initial.left;
  same : list_any shares_name (records_below (fields_of l.left)) ≡ list_any shares_name (records_below (fields_of l.fields));
}
