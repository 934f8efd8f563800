use Rattle.command_checks.proofs.Imports.{◌≡◌, take}
use Rattle.command_checks.proofs.terms.narrowed.Given as goal

abbrev pub invariant-loop-offset : goal.invariant-loop-offset
invariant-loop-offset l = l.narrow.items ≡ take l.offset-index l.offsets
