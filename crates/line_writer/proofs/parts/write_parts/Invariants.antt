-- what is written so far, and the parts that are left, are all
use Rattle.line_writer.proofs.Imports.{◌≡◌, ◌∷◌, map, drop, flat_map, Comma, Sign, with_commas, with_tokens_behind}
use Rattle.line_writer.proofs.parts.write_parts.Given as goal

abbrev pub invariant-loop-part : goal.invariant-loop-part
invariant-loop-part g l = with_tokens_behind l.text (flat_map (λ next. Sign Comma ∷ next) (map g.T.Part.tokens (drop l.part-index l.later))) ≡ with_tokens_behind l.fn.text (with_commas (map g.T.Part.tokens l.parts))
