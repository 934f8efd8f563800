use Rattle.view_commands.proofs.Imports.{option_map, GivesUp-then, common_steps, arith}
use Rattle.view_commands.proofs.Acting.{by_parts}
use Rattle.view_commands.specs.ExitsLaws.{gave_up}
use Rattle.view_commands.proofs.by_actors.UpdateByActorsWork.run.Goals as goal

pub returns-in_err-team-clause-answers : goal.returns-in_err-team-clause-answers
returns-in_err-team-clause-answers g c = grind (arith, common_steps, by_parts, option_map, gave_up, GivesUp-then)

pub returns-clause-answers : goal.returns-clause-answers
returns-clause-answers g c = grind (arith, common_steps, by_parts, option_map)
