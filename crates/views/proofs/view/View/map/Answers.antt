use Rattle.views.proofs.view.View.map.Goals as goal
use Rattle.record_dim.specs.Std.{arith}

pub returns : goal.returns
returns c =
    let mapping = c.self.invariant.0 in grind arith
