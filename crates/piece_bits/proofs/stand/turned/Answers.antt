use Rattle.piece_bits.proofs.Lemmas.{refl, arith, IfSome_then, turned_stand}
use Rattle.piece_bits.proofs.stand.turned.Goals as goal

pub returns : goal.returns
returns c =
    IfSome_then c.in_bytes.result c.in_bytes.ensures
    (λ stand is. turned_stand c.args.pieces.now c.in_ok-last.field-0.now c.in_ok-word.word c.args.hold stand is c.in_ok-word.ensures (omega arith)
    (c.if-not-are_turned.ensures refl))
