use Rattle.piece_bits.proofs.Lemmas.{◌<◌, ◌+◌, ◌*◌, length, get_or, pos, arith, to_z-of_z, one_of_eight, same_number, even_place, room_at}
use Rattle.piece_bits.proofs.read.read_eights.Goals as goal

pub eight_at-numbers-requires-clause-fits : goal.eight_at-numbers-requires-clause-fits
eight_at-numbers-requires-clause-fits c =
    let stretch = c.args.stretch.now in
    let eight = c.loop-eight.eight in
    let even = c.eights-eights.ensures in
    omega (
      arith,
      even_place stretch c.eights-eights.result eight 7 c.place-first.result c.args.apart even (omega arith) (omega arith) c.place-first.ensures c.requires.apart,
      c.requires.room.places (8 * eight + 7) (omega (arith, even.few)),
    )

pub eight_at-numbers-requires-clause-within : goal.eight_at-numbers-requires-clause-within
eight_at-numbers-requires-clause-within c = λ j below.
    let stretch = c.args.stretch.now in
    let eight = c.loop-eight.eight in
    let even = c.eights-eights.ensures in
    let inside : 8 * eight + j < stretch.rows = omega (arith, even.few, below) in
    room_at c.args.short.now stretch (length c.args.blob.now) (8 * eight + j) (c.place-first.result + j * c.args.apart) c.args.word c.requires.room inside c.requires.word
    (even_place stretch c.eights-eights.result eight j c.place-first.result c.args.apart even (omega arith) below c.place-first.ensures c.requires.apart)

pub loop-j-preserved : goal.loop-j-preserved
loop-j-preserved c =
    let stretch = c.args.stretch.now in
    let eight = c.loop-eight.eight in
    let j = c.loop-j.j in
    let even = c.eights-eights.ensures in
    let number = get_or c.eight_at-numbers.result j (pos 0) in
    one_of_eight c.args.short.now stretch c.args.blob.now c.args.at eight j _ c.loop-j.values _ c.loop-j.invariant (omega (arith, even.few))
    (grind (arith, same_number, to_z-of_z))
