use Rattle.views.proofs.Imports.{◌≡◌, ◌+◌}
use Rattle.views.proofs.view.View.count_run.Given as goal

abbrev pub invariant-loop-block : goal.invariant-loop-block
invariant-loop-block g l = l.steps ≡ l.fn.steps + l._block
