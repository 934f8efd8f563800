use Rattle.view_commands.proofs.Imports.{rules, layout, GivesUp-then, IsLeft, common_steps, arith}
use Rattle.command_checks.specs.declared.fault.StepFault.TheVariants as step
use Rattle.view_commands.specs.ExitsLaws.{gave_up}
use Rattle.view_commands.proofs.Shown.{layout_goes, then_broke, then_wrote}
use Rattle.view_commands.proofs.show.LayoutWork.run.Goals as goal

pub returns-in_err-check_small-clause-answers : goal.returns-in_err-check_small-clause-answers
unfolding layout
returns-in_err-check_small-clause-answers g c = grind (arith, common_steps, gave_up, GivesUp-then)

pub returns-in_err-runs-clause-answers : goal.returns-in_err-runs-clause-answers
returns-in_err-runs-clause-answers g c = gave_up (IsLeft c.args.view.now) g.K.Sink.taken g.K.Sink.faults c.args.out.now _ step.NoMemory _ (search rules) tt

pub returns-in_err-write_runs-clause-answers : goal.returns-in_err-write_runs-clause-answers
returns-in_err-write_runs-clause-answers g c = grind (arith, common_steps, then_broke, layout_goes)

pub returns-clause-answers : goal.returns-clause-answers
returns-clause-answers g c = grind (arith, common_steps, then_wrote, layout_goes)
