use Rattle.blobs.proofs.Imports.{field_inside, field_before, field_after, field_small, arith}
use Rattle.blobs.proofs.word.with_bits.Goals as goal

pub returns : goal.returns
returns c =
    let a = c.args in grind (arith, field_inside, field_before, field_after, field_small)
