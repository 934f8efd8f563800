use Rattle.map_aos.proofs.part.by_width.Goals as goal
use Rattle.record_dim.specs.Std.{common_steps, arith}

pub returns : goal.returns
returns c = grind (arith, common_steps)
