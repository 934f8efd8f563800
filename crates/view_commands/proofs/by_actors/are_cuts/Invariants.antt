use Rattle.view_commands.proofs.Imports.{◌≡◌, drop, are_cuts}
use Rattle.view_commands.proofs.by_actors.are_cuts.Given as goal

abbrev pub invariant-loop-cut : goal.invariant-loop-cut
invariant-loop-cut l = are_cuts 0 l.cuts l.rows ≡ are_cuts l.from (drop l.cut-index l.cuts) l.rows
