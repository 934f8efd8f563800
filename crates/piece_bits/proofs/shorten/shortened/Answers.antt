use Rattle.piece_bits.proofs.Lemmas.{refl, short_of}
use Rattle.piece_bits.proofs.shorten.shortened.Goals as goal

pub along-requires-clause-low : goal.along-requires-clause-low
along-requires-clause-low c =
    (c.in_ok-stand.ensures (record { signed = c.args.hold.signed; width = c.args.hold.width; ones = 0; half = 0 }) refl refl).low

pub returns : goal.returns
returns c =
    short_of c.args.order c.args.extents.now c.args.pieces.now c.args.hold c.in_ok-path.path c.in_ok-stand.stand c.along.result c.along.ensures
    c.in_ok-stand.ensures c.in_ok-path.ensures.path c.rank-rank.ensures.extents.rows
