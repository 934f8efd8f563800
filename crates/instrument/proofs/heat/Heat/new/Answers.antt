use Rattle.instrument.proofs.Imports.{arith, get_or, div_ceil, rounded, common_steps}
use Rattle.instrument.proofs.heat.Heat.new.Goals as goal

pub loop-bytes-preserved : goal.loop-bytes-preserved
loop-bytes-preserved c = grind (arith, common_steps, get_or, div_ceil, rounded)
