use Rattle.record_dim.specs.Std.{length}
use Rattle.map_expr.proofs.widths.+same_steps.Given as goal

-- a path gets shorter by its first step
abbrev pub decreases-same_steps : goal.decreases-same_steps
decreases-same_steps l = length l.steps.now
