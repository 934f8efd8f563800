-- what is written so far, and the numbers that are left, are all
use Rattle.line_writer.proofs.Imports.{◌≡◌, tree_of, dims_tokens, with_tokens_behind}
use Rattle.line_writer.proofs.record.write_dims.Given as goal

abbrev pub invariant-loop-node : goal.invariant-loop-node
invariant-loop-node l = with_tokens_behind l.text (dims_tokens (tree_of l.node)) ≡ with_tokens_behind l.fn.text (dims_tokens (tree_of l.dim))
