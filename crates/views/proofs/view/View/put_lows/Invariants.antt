use Rattle.views.proofs.Lemmas.{map, raised, leaf_type_of, HasStored}
use Rattle.views.proofs.view.View.put_lows.Given as goal

abbrev pub invariant-loop-k : goal.invariant-loop-k
invariant-loop-k l = HasStored l.leaf l.first l.k l.fn.self l.self (map (raised (leaf_type_of l.fn.self l.leaf)) l.lows)
