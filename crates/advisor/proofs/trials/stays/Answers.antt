use Rattle.advisor.proofs.Tried.{strict_stays}
use Rattle.advisor.proofs.trials.stays.Goals as goal
use Rattle.record_dim.specs.Std.{common_steps, arith}

pub returns-then-is_between : goal.returns-then-is_between
returns-then-is_between c = grind (arith, common_steps, strict_stays)
