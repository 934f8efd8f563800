use Rattle.view_commands.proofs.Imports.{arith, decimal-digits_text, common_steps}
use Rattle.view_commands.proofs.advise.push_count.Goals as goal

pub returns : goal.returns
returns c = grind (arith, common_steps, decimal-digits_text)
