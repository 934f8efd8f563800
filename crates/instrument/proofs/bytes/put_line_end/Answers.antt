use Rattle.instrument.proofs.Entries.{one_end}
use Rattle.instrument.proofs.bytes.put_line_end.Goals as goal
use Rattle.record_dim.specs.Std.{common_steps, arith}

pub returns : goal.returns
returns g c = grind (arith, common_steps, one_end)
