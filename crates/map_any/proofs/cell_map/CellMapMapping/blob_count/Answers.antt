use Rattle.map_any.proofs.Lemmas.{length-sized, common_steps, arith}
use Rattle.map_any.proofs.cell_map.CellMapMapping.blob_count.Goals as goal

pub returns : goal.returns
returns c = grind (arith, common_steps, length-sized)
