use Rattle.views.proofs.size.bytes_for.Goals as goal
use Rattle.record_dim.specs.Std.{common_steps, arith}

-- a mapping that is dropped is one still
pub invariant_of-map-then-not-branch : goal.invariant_of-map-then-not-branch
invariant_of-map-then-not-branch c = grind (arith, common_steps)

pub invariant_of-map-2 : goal.invariant_of-map-2
invariant_of-map-2 c = grind (arith, common_steps)
