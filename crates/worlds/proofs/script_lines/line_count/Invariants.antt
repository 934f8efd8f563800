use Rattle.worlds.proofs.Imports.{◌≡◌, ◌≤◌, ◌+◌, length, lines_in}
use Rattle.worlds.proofs.script_lines.line_count.Given as goal

abbrev pub invariant-loop-line : goal.invariant-loop-line
invariant-loop-line l = record {
  lines : l.count + length (lines_in l.rest) ≡ length (lines_in l.script);
  bytes : l.count + length l.rest ≤ length l.script;
}

abbrev pub decreases-loop-line : goal.decreases-loop-line
decreases-loop-line l = length l.rest
