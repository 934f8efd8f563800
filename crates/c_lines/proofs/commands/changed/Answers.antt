use Rattle.c_lines.proofs.Commanding.{carried_not}
use Rattle.c_lines.proofs.commands.changed.Goals as goal

pub returns-in-Err : goal.returns-in-Err
returns-in-Err g c = rw c.change_refusal.ensures (carried_not _ (g.W.Change.left c.args.work.now c.args.view.now) c.args.view.now c.run.new.view c.in-Err.fault c.in-Err.ensures.changed)
