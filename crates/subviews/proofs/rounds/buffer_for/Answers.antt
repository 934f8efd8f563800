use Rattle.subviews.proofs.Passes.{built_uncounted}
use Rattle.subviews.proofs.rounds.buffer_for.Goals as goal
use Rattle.record_dim.specs.Std.{common_steps, arith}

pub new_within-requires : goal.new_within-requires
new_within-requires c = grind (arith, common_steps, built_uncounted)

pub returns-in-Ok : goal.returns-in-Ok
returns-in-Ok c = grind (arith, common_steps)
