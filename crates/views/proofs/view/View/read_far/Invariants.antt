use Rattle.views.proofs.RunStoreLaws.{HasRun}
use Rattle.views.proofs.view.View.read_far.Given as goal

abbrev pub invariant-loop-k : goal.invariant-loop-k
invariant-loop-k l = HasRun l.leaf l.first l.k l.fn.self l.self l.fn.values l.values
