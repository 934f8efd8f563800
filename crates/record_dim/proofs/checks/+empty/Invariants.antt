-- what the fields that are left say is what all fields say
use Rattle.record_dim.proofs.Imports.{◌≡◌, ◌≤◌, list_any, size-FieldList, fields_of, records_below, is_empty_record}
use Rattle.record_dim.proofs.checks.+empty.Given as goal

abbrev pub decreases-any_empty : goal.decreases-any_empty
decreases-any_empty l = goal.size-any_empty l

abbrev pub decreases-any_empty_below : goal.decreases-any_empty_below
decreases-any_empty_below l = goal.size-any_empty_below l

abbrev pub invariant-any_empty_below-loop-left : goal.invariant-any_empty_below-loop-left
invariant-any_empty_below-loop-left l = record {
  no_deeper : size-FieldList l.left ≤ size-FieldList l.initial.left;
  same : list_any is_empty_record (records_below (fields_of l.left)) ≡ list_any is_empty_record (records_below (fields_of l.fields));
}
