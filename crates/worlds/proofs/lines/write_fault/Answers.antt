use Rattle.worlds.proofs.Imports.{Writes-puts_err, common_steps, arith}
use Rattle.worlds.proofs.lines.write_fault.Goals as goal

pub returns-in_err-put_fault : goal.returns-in_err-put_fault
returns-in_err-put_fault g c = grind (arith, common_steps, Writes-puts_err)
