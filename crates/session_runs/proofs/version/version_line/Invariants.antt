use Rattle.session_runs.proofs.Imports.{◌+◌, ◌≤◌, length, lines_in}
use Rattle.session_runs.proofs.Heads.{IsPassed}
use Rattle.session_runs.proofs.version.version_line.Given as goal

abbrev pub invariant-loop-line : goal.invariant-loop-line
invariant-loop-line l = record {
  passed : IsPassed (lines_in l.script) l.before (lines_in l.rest);
  bytes : l.before + length l.rest ≤ length l.script;
}

abbrev pub decreases-loop-line : goal.decreases-loop-line
decreases-loop-line l = length l.rest
