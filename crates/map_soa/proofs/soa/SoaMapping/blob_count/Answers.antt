use Rattle.map_soa.proofs.Imports.{arith, common_steps}
use Rattle.map_soa.proofs.Blobs.{blob_each}
use Rattle.map_soa.proofs.soa.SoaMapping.blob_count.Goals as goal

pub returns-in-Multi : goal.returns-in-Multi
returns-in-Multi c = grind (arith, common_steps, blob_each)
