use Rattle.piece_bits.proofs.Lemmas.{IfSome_then, carried_stand}
use Rattle.piece_bits.proofs.stand.stand_of.Goals as goal

pub returns-in-Some : goal.returns-in-Some
returns-in-Some c =
    IfSome_then c.alone.result c.alone.ensures
    (λ stand is. carried_stand c.args.pieces.now c.in-Some.one c.args.hold stand c.in-Some.ensures is.1 is.0)
