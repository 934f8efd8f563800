use Rattle.blob_file.proofs.Fills.{body_is}
use Rattle.blob_file.proofs.open.fill_view.Goals as goal
use Rattle.record_dim.specs.Std.{common_steps, arith}

pub returns-clause-read : goal.returns-clause-read
returns-clause-read g c = grind (arith, common_steps, body_is)
