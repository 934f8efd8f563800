use Rattle.line_writer.proofs.Imports.{arith, common_steps}
use Rattle.line_writer.proofs.Behind.{each_more}
use Rattle.line_writer.proofs.later.write_each.Goals as goal

pub loop-part-preserved : goal.loop-part-preserved
loop-part-preserved g c = grind (arith, common_steps, each_more)
