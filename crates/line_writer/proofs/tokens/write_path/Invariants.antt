-- what is written so far, and the steps that are left, are the path
use Rattle.line_writer.proofs.Imports.{◌≡◌, drop, flat_map, step_tokens, path_tokens, with_tokens_behind}
use Rattle.line_writer.proofs.tokens.write_path.Given as goal

abbrev pub invariant-loop-step : goal.invariant-loop-step
invariant-loop-step l = with_tokens_behind l.text (flat_map step_tokens (drop l.step-index l.steps)) ≡ with_tokens_behind l.fn.text (path_tokens l.path)
