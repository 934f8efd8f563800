use Rattle.map_aos.proofs.Blob.{blob_bytes_is}
use Rattle.map_aos.proofs.aos.AosMapping.blob_bytes.Goals as goal
use Rattle.record_dim.specs.Std.{common_steps, arith}

pub returns : goal.returns
returns c = grind (arith, common_steps, blob_bytes_is)
