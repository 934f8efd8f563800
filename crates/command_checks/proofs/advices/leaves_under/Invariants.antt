use Rattle.command_checks.proofs.Imports.{◌≡◌, take, leaves_under, Ok}
use Rattle.command_checks.proofs.advices.leaves_under.Given as goal

abbrev pub invariant-loop-path : goal.invariant-loop-path
invariant-loop-path l = leaves_under l.view.fields (take l.path-index l.paths) ≡ Ok l.leaves
