use Rattle.views.proofs.Lemmas.{◌≡◌, ◌+◌, AreStored}
use Rattle.views.proofs.view.View.store_row.Given as goal

abbrev pub invariant-loop-leaf : goal.invariant-loop-leaf
invariant-loop-leaf g l = record {
  stored : AreStored l.initial.self l.self l.row l.values l.leaf;
  steps : l.steps ≡ l.initial.steps + l.leaf;
}
