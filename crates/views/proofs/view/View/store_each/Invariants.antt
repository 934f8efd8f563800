use Rattle.views.proofs.Lemmas.{◌≡◌, drop, map, first_lane_fault, run_fault, answer_of, kept_of, HasStored}
use Rattle.views.proofs.view.View.store_each.Given as goal

abbrev pub invariant-loop-lane : goal.invariant-loop-lane
invariant-loop-lane l = record {
  fault : run_fault l.leaf l.values l.fn.self ≡ first_lane_fault (answer_of l.fn.self) l.leaf l.lane (drop l.lane l.values);
  stored : HasStored l.leaf l.first l.lane l.fn.self l.self (map (kept_of l.fn.self l.leaf) l.values);
}
