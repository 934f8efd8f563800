use Rattle.piece_bits.proofs.Imports.{arith, SFits, rules, w128, scattered_pieces, spots_of}
use Rattle.piece_bits.proofs.scattered.write_scattered.Goals as goal

pub returns : goal.returns
returns c =
    let width = c.args.field.now.width in
    let spots = spots_of (scattered_pieces c.args.rules.now c.args.place) in
    let fits : SFits w128 c.args.value = search rules in
    grind arith
