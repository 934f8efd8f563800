-- what the fields that are left say is what all fields say
use Rattle.record_dim.proofs.Imports.{◌≡◌, ◌≤◌, nat_eq, list_any, size-FieldList, fields_of, lengths_below}
use Rattle.record_dim.proofs.checks.+elements.Given as goal

abbrev pub decreases-any_without_elements : goal.decreases-any_without_elements
decreases-any_without_elements l = goal.size-any_without_elements l

abbrev pub decreases-any_without_elements_below : goal.decreases-any_without_elements_below
decreases-any_without_elements_below l = goal.size-any_without_elements_below l

abbrev pub invariant-any_without_elements_below-loop-left : goal.invariant-any_without_elements_below-loop-left
invariant-any_without_elements_below-loop-left l = record {
  no_deeper : size-FieldList l.left ≤ size-FieldList l.initial.left;
  same : list_any (nat_eq 0) (lengths_below (fields_of l.left)) ≡ list_any (nat_eq 0) (lengths_below (fields_of l.fields));
}
