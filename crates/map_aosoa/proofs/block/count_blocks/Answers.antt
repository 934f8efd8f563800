use Rattle.map_aosoa.proofs.Imports.{div_ceil, common_steps, arith}
use Rattle.map_aosoa.proofs.Blocks.{blocks_are}
use Rattle.map_aosoa.proofs.block.count_blocks.Goals as goal

pub returns : goal.returns
returns c = grind (arith, common_steps, div_ceil, blocks_are)
