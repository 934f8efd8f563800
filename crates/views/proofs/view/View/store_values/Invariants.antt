use Rattle.views.proofs.Lemmas.{map, kept_of, HasStored}
use Rattle.views.proofs.view.View.store_values.Given as goal

abbrev pub invariant-loop-lane : goal.invariant-loop-lane
invariant-loop-lane l = HasStored l.leaf l.row l.lane l.fn.self l.self (map (kept_of l.fn.self l.leaf) l.values)
