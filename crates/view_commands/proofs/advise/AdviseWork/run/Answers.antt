use Rattle.view_commands.proofs.Imports.{append-nil, GivesUp-then, common_steps, arith}
use Rattle.view_commands.specs.ExitsLaws.{gave_up}
use Rattle.view_commands.proofs.Shown.{then_broke, then_wrote}
use Rattle.view_commands.proofs.advise.AdviseWork.run.Goals as goal

pub returns-in_err-text-clause-answers : goal.returns-in_err-text-clause-answers
returns-in_err-text-clause-answers g c = grind (arith, common_steps, gave_up, GivesUp-then)

pub returns-in_err-write_parts-clause-answers : goal.returns-in_err-write_parts-clause-answers
returns-in_err-write_parts-clause-answers g c = grind (arith, common_steps, then_broke, append-nil)

pub returns-clause-answers : goal.returns-clause-answers
returns-clause-answers g c = grind (arith, common_steps, then_wrote, append-nil)
