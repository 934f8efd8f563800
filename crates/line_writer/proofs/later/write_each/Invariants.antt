-- what is written so far, and the items that are left, are all
use Rattle.line_writer.proofs.Imports.{◌≡◌, drop, flat_map, with_tokens_behind}
use Rattle.line_writer.proofs.later.write_each.Given as goal

abbrev pub invariant-loop-part : goal.invariant-loop-part
invariant-loop-part g l = with_tokens_behind l.text (flat_map g.T.Part.tokens (drop l.part-index l.parts)) ≡ with_tokens_behind l.fn.text (flat_map g.T.Part.tokens l.parts)
