use Rattle.line_writer.proofs.Imports.{arith, common_steps}
use Rattle.line_writer.proofs.Behind.{parts_begun, parts_more}
use Rattle.line_writer.proofs.parts.write_parts.Goals as goal

pub loop-part-init : goal.loop-part-init
loop-part-init g c = grind (arith, common_steps, parts_begun)

pub loop-part-preserved : goal.loop-part-preserved
loop-part-preserved g c = grind (arith, common_steps, parts_more)
