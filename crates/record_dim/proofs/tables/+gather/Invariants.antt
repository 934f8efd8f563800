-- what is gathered so far, and what is left, is all
use Rattle.record_dim.proofs.Imports.{◌≡◌, ◌≤◌, ◌++◌, ◌+◌, ◌*◌, size-FieldList, fields_of, tree_of, Array, node_kinds, node_texts, record_kinds, record_texts}
use Rattle.record_dim.proofs.tables.+gather.Given as goal

abbrev pub decreases-gather : goal.decreases-gather
decreases-gather l = 2 * goal.size-gather l

-- above that of its fields, and below that of the node
abbrev pub decreases-gather_record : goal.decreases-gather_record
decreases-gather_record l = 2 * goal.size-gather_record l + 1

-- above that of one element, and below that of the array
abbrev pub decreases-gather_elements : goal.decreases-gather_elements
decreases-gather_elements l = 2 * goal.size-gather_elements l + 1

abbrev pub decreases-gather_fields : goal.decreases-gather_fields
decreases-gather_fields l = 2 * goal.size-gather_fields l

abbrev pub decreases-gather_field : goal.decreases-gather_field
decreases-gather_field l = 2 * goal.size-gather_field l

abbrev pub invariant-gather_fields-loop-left : goal.invariant-gather_fields-loop-left
invariant-gather_fields-loop-left l = record {
  no_deeper : size-FieldList l.left ≤ size-FieldList l.initial.left;
  kinds : l.tables.kinds.items ++ record_kinds (fields_of l.left) ≡ l.fn.tables.kinds.items ++ record_kinds (fields_of l.fields);
  texts : l.tables.texts.items ++ record_texts l.front (fields_of l.left) ≡ l.fn.tables.texts.items ++ record_texts l.front (fields_of l.fields);
}

abbrev pub invariant-gather_elements-loop-number : goal.invariant-gather_elements-loop-number
invariant-gather_elements-loop-number l = record {
  kinds : l.tables.kinds.items ≡ l.fn.tables.kinds.items ++ node_kinds (Array l.number (tree_of l.element));
  texts : l.tables.texts.items ≡ l.fn.tables.texts.items ++ node_texts l.text (Array l.number (tree_of l.element));
}
