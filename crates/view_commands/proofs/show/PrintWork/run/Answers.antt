use Rattle.view_commands.proofs.Imports.{print, common_steps, arith}
use Rattle.view_commands.proofs.Shown.{then_broke, then_wrote}
use Rattle.view_commands.proofs.show.PrintWork.run.Goals as goal

pub returns-in_err-print_rows-clause-answers : goal.returns-in_err-print_rows-clause-answers
unfolding print
returns-in_err-print_rows-clause-answers g c = grind (arith, common_steps, then_broke)

pub returns-clause-answers : goal.returns-clause-answers
unfolding print
returns-clause-answers g c = grind (arith, common_steps, then_wrote)
