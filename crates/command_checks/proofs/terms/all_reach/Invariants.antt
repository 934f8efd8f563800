use Rattle.command_checks.proofs.Imports.{◌≡◌, true, take, all_reach}
use Rattle.command_checks.proofs.terms.all_reach.Given as goal

abbrev pub invariant-loop-text : goal.invariant-loop-text
invariant-loop-text l = all_reach l.window (take l.text-index l.texts) ≡ true
