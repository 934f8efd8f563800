use Rattle.view_commands.proofs.Imports.{to_z-of_z, common_steps, arith}
use Rattle.view_commands.proofs.Arms.{set_told}
use Rattle.view_commands.proofs.assign.set_in.Goals as goal

pub returns-in-Ok : goal.returns-in-Ok
returns-in-Ok g c = grind (arith, common_steps, set_told, to_z-of_z)
