use Rattle.piece_bits.proofs.Imports.{bit_or, to_z, of_z, to_z-of_z, arith, cases_lt, le_or_l, le_or_r, common_steps}
use Rattle.piece_bits.proofs.within.are_within.Goals as goal

pub loop-value-preserved : goal.loop-value-preserved
loop-value-preserved c = grind (arith, common_steps, le_or_l, to_z-of_z, to_z, of_z, bit_or, le_or_r, cases_lt)
