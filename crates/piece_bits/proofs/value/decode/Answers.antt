use Rattle.piece_bits.proofs.Imports.{arith, common_steps}
use Rattle.piece_bits.proofs.value.decode.Goals as goal

pub returns-then-not-hold : goal.returns-then-not-hold
returns-then-not-hold c = grind (arith, common_steps)
