use Rattle.piece_bits.proofs.Lemmas.{◌≡◌, arith, IfSome_then, field_stand, field_together}
use Rattle.piece_bits.proofs.stand.alone.Goals as goal

pub returns-in-None : goal.returns-in-None
returns-in-None c =
    let one = c.args.one in
    let bits : one.bits ≡ c.args.hold.width = omega arith in
    IfSome_then c.in_bits.result c.in_bits.ensures (λ stand is. (field_stand one c.args.hold stand is.0 is.1 bits, field_together one stand is.0))
