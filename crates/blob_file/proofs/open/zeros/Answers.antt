use Rattle.blob_file.proofs.Made.{table_new}
use Rattle.blob_file.proofs.open.zeros.Goals as goal
use Rattle.record_dim.specs.Std.{common_steps, arith}

pub returns-in-Ok-clause-made : goal.returns-in-Ok-clause-made
returns-in-Ok-clause-made c = grind (arith, common_steps, table_new)
