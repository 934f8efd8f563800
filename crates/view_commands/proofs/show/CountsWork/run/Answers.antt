use Rattle.view_commands.specs.ExitsLaws.{refused}
use Rattle.view_commands.proofs.Shown.{counts_goes, counts_none, then_broke, then_wrote}
use Rattle.view_commands.proofs.show.CountsWork.run.Goals as goal
use Rattle.record_dim.specs.Std.{common_steps, arith}

pub returns-in_default-clause-answers : goal.returns-in_default-clause-answers
returns-in_default-clause-answers g c = refused g.K.Sink.taken g.K.Sink.faults c.args.out.now _ _ (counts_none c.args.view.now (rw c.in_default.is at c.counts.ensures.value))

pub returns-in_err-write_counts-clause-answers : goal.returns-in_err-write_counts-clause-answers
returns-in_err-write_counts-clause-answers g c = grind (arith, common_steps, then_broke, counts_goes)

pub returns-clause-answers : goal.returns-clause-answers
returns-clause-answers g c = grind (arith, common_steps, then_wrote, counts_goes)
