use Rattle.command_checks.proofs.Imports.{◌≡◌, length, take, bound_pass, each, Ok}
use Rattle.command_checks.proofs.advices.bound_passes.Given as goal

abbrev pub invariant-loop-text : goal.invariant-loop-text
invariant-loop-text l = record {
  passes : each (bound_pass l.view.fields) (take l.text-index l.texts) ≡ Ok l.passes;
  long : length l.passes ≡ l.text-index;
}
