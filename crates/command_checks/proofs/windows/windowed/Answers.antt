use Rattle.command_checks.proofs.Inside.{windowed_goes}
use Rattle.command_checks.proofs.windows.windowed.Goals as goal
use Rattle.command_checks.proofs.Imports.{common_steps, arith}

pub returns-in-Some-clause-window : goal.returns-in-Some-clause-window
returns-in-Some-clause-window c = grind (arith, common_steps, windowed_goes)
