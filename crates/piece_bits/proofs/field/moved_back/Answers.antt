use Rattle.piece_bits.proofs.Lemmas.{bit_xor, arith, common_steps, moved_field, xored_half}
use Rattle.piece_bits.proofs.field.moved_back.Goals as goal

pub returns : goal.returns
returns c = grind (arith, common_steps, bit_xor, xored_half, moved_field)
