-- the kernel is the comparison of its parts
use Rattle.line_writer.proofs.commands.write_kernel.Goals as goal

pub returns-in-CountWhere : goal.returns-in-CountWhere
returns-in-CountWhere c = rw c.in-CountWhere.is c.write_comparison.ensures
