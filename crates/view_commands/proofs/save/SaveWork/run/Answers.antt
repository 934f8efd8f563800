use Rattle.view_commands.proofs.Saving.{gave_up_idle, save_goes, save_long}
use Rattle.view_commands.proofs.Shown.{then_broke, then_wrote}
use Rattle.view_commands.proofs.save.SaveWork.run.Goals as goal
use Rattle.record_dim.specs.Std.{common_steps, arith}

pub returns-in-Ok-clause-answers : goal.returns-in-Ok-clause-answers
returns-in-Ok-clause-answers g c = grind (arith, common_steps, then_wrote, save_goes)

pub returns-in-TooBig-clause-answers : goal.returns-in-TooBig-clause-answers
returns-in-TooBig-clause-answers g c = grind (arith, common_steps, gave_up_idle, save_long)

pub returns-in-Failed-clause-answers : goal.returns-in-Failed-clause-answers
returns-in-Failed-clause-answers g c = grind (arith, common_steps, then_broke, save_goes)

pub returns-in-NoMemory-clause-answers : goal.returns-in-NoMemory-clause-answers
returns-in-NoMemory-clause-answers g c = grind (arith, common_steps, gave_up_idle)
