-- what is left is no deeper than all, and what is written so far with it is all
use Rattle.line_writer.proofs.Imports.{◌≡◌, ◌≤◌, ◌+◌, ◌*◌, ◌∷◌, size-Dim, size-FieldList, tree_of, fields_of, OpenBrace, Sign, core_tokens, fields_tokens, later_tokens, with_tokens_behind}
use Rattle.line_writer.proofs.record.+record.Given as goal

abbrev pub decreases-write_held : goal.decreases-write_held
decreases-write_held l = 2 * goal.size-write_held l + 1

abbrev pub decreases-write_core : goal.decreases-write_core
decreases-write_core l = 2 * goal.size-write_core l

abbrev pub decreases-write_fields : goal.decreases-write_fields
decreases-write_fields l = 2 * goal.size-write_fields l

abbrev pub decreases-write_field : goal.decreases-write_field
decreases-write_field l = 2 * goal.size-write_field l

abbrev pub invariant-write_core-loop-node : goal.invariant-write_core-loop-node
invariant-write_core-loop-node l = record {
  no_deeper : size-Dim l.node ≤ size-Dim l.dim;
  unwritten : l.text ≡ l.fn.text;
  same : core_tokens (tree_of l.node) ≡ core_tokens (tree_of l.dim);
}

abbrev pub invariant-write_fields-loop-later : goal.invariant-write_fields-loop-later
invariant-write_fields-loop-later l = record {
  no_deeper : size-FieldList l.later ≤ size-FieldList l.fields;
  same : with_tokens_behind l.text (later_tokens (fields_of l.later)) ≡ with_tokens_behind l.fn.text (Sign OpenBrace ∷ fields_tokens (fields_of l.fields));
}
