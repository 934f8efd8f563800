use Rattle.piece_bits.proofs.Lemmas.{arith, pow_pos, masked_slot}
use Rattle.piece_bits.proofs.short.ShortRule.block_rows.Goals as goal

pub returns : goal.returns
returns c =
    let short = c.args.self.now in
    omega (arith, masked_slot c.args.row short.power short.mask 1 short.masked, short.masked, pow_pos short.power)
