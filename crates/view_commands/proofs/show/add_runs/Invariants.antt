use Rattle.view_commands.proofs.Imports.{◌≡◌, ◌++◌, take}
use Rattle.view_commands.proofs.show.add_runs.Given as goal

abbrev pub invariant-loop-run : goal.invariant-loop-run
invariant-loop-run l = l.runs ≡ l.initial.runs ++ take l.run-index l.more
