use Rattle.piece_bits.proofs.Lemmas.{IfSome_then, whole_stand, whole_together}
use Rattle.piece_bits.proofs.stand.whole.Goals as goal

pub returns : goal.returns
returns c =
    let one = c.args.one in
    let word = c.in_ok-whole_word.field-0 in
    let hold = c.args.hold in
    IfSome_then c.in_bytes.result c.in_bytes.ensures
    (λ stand is. (whole_stand one word hold stand is c.in_ok-whole_word.ensures c.requires, whole_together one word hold stand is c.in_ok-whole_word.ensures))
