use Rattle.views.proofs.Imports.{◌≡◌, drop, first_lane_fault, answer_of}
use Rattle.views.proofs.view.View.lanes_fit.Given as goal

abbrev pub invariant-loop-lane : goal.invariant-loop-lane
invariant-loop-lane l = first_lane_fault (answer_of l.self) l.leaf 0 l.values ≡ first_lane_fault (answer_of l.self) l.leaf l.lane (drop l.lane l.values)
