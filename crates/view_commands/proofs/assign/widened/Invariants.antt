use Rattle.view_commands.proofs.Imports.{◌≡◌, take}
use Rattle.view_commands.proofs.assign.widened.Given as goal

abbrev pub invariant-loop-number : goal.invariant-loop-number
invariant-loop-number g l = l.wide.items ≡ take l.number-index l.numbers
