use Rattle.views.proofs.ColumnLaws.{HasLoaded}
use Rattle.views.proofs.view.View.load_lanes.Given as goal

abbrev pub invariant-loop-lane : goal.invariant-loop-lane
invariant-loop-lane g l = HasLoaded l.leaf l.row l.lane l.fn.self l.self l.values
