use Rattle.piece_bits.proofs.Lemmas.{arith, to_z-of_z}
use Rattle.piece_bits.proofs.put.put_stretch.Goals as goal

pub loop-k-preserved : goal.loop-k-preserved
loop-k-preserved c =
    grind (arith, to_z-of_z)
