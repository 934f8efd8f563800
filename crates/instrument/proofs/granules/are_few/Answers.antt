use Rattle.instrument.proofs.Imports.{arith, get_or, div_ceil, lt-leb, sum_by_more, sum_by-take-le, rounded, common_steps}
use Rattle.instrument.proofs.granules.are_few.Goals as goal

pub returns-then-granules-left : goal.returns-then-granules-left
returns-then-granules-left c = grind (arith, common_steps, get_or, div_ceil, rounded, sum_by_more, sum_by-take-le, lt-leb)

pub loop-bytes-preserved : goal.loop-bytes-preserved
loop-bytes-preserved c = grind (arith, common_steps, get_or, div_ceil, rounded, sum_by_more)
