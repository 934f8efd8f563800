use Rattle.view_commands.proofs.Advice.{mapping_text}
use Rattle.view_commands.proofs.advise.mapping_line.Goals as goal
use Rattle.record_dim.specs.Std.{common_steps, arith}

pub returns : goal.returns
returns c = grind (arith, common_steps, mapping_text)
