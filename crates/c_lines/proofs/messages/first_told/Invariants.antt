use Rattle.c_lines.proofs.Imports.{◌≡◌, drop, find, is_told}
use Rattle.c_lines.proofs.messages.first_told.Given as goal

abbrev pub invariant-loop-refusal : goal.invariant-loop-refusal
invariant-loop-refusal l = find (is_told l.answer l.cause) l.refusals ≡ find (is_told l.answer l.cause) (drop l.refusal-index l.refusals)
