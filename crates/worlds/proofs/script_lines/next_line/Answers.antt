use Rattle.worlds.proofs.Imports.{arith, tests, common_steps}
use Rattle.worlds.proofs.Cuts.{line_first, line_last, nothing_left}
use Rattle.worlds.proofs.script_lines.next_line.Goals as goal

pub returns-then-end-rest-clause-lines : goal.returns-then-end-rest-clause-lines
returns-then-end-rest-clause-lines c = grind (arith, common_steps, tests, line_last, nothing_left)

pub returns-clause-lines : goal.returns-clause-lines
returns-clause-lines c = rw c.without_cr-2.ensures (line_first c.args.rest.now c.line_len-end.result c.line_len-end.ensures.count (omega arith))
