use Rattle.views.proofs.Lemmas.{◌≡◌, ◌+◌, AreRead}
use Rattle.views.proofs.view.View.read_row.Given as goal

abbrev pub invariant-loop-leaf : goal.invariant-loop-leaf
invariant-loop-leaf g l = record {
  read : AreRead l.initial.self l.self l.row l.values l.leaf;
  steps : l.steps ≡ l.initial.steps + l.leaf;
}
