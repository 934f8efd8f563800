use Rattle.command_checks.proofs.Imports.{arith, common_steps}
use Rattle.command_checks.proofs.Passes.{range_push}
use Rattle.command_checks.proofs.advices.push_range.Goals as goal

pub loop-number-preserved : goal.loop-number-preserved
loop-number-preserved c = grind (arith, common_steps, range_push)
