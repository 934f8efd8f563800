use Rattle.piece_bits.proofs.Lemmas.{refl, sym, slice_get_within, scattered_stand}
use Rattle.piece_bits.proofs.stand.scattered.Goals as goal

pub returns : goal.returns
returns c =
    let first = c.in_ok-first.field-0.now in
    scattered_stand c.args.pieces.now first c.args.hold c.in_ok-stand.stand _ c.in_ok-stand.ensures
    (slice_get_within c.args.pieces.now 0 first (sym c.in_ok-first.ensures.value)) (c.if-not-are_scattered.ensures refl) refl
