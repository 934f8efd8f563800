use Rattle.piece_bits.proofs.Lemmas.{◌≡◌, ◌+◌, ◌*◌, get_or, pos, rules, FitsSigned, w64, arith, to_z-of_z, even_place, put_more}
use Rattle.piece_bits.proofs.put.put_eights.Goals as goal

pub overflow_mul-j : goal.overflow_mul-j
overflow_mul-j c =
    let there = even_place c.args.stretch.now c.eights-eights.result c.loop-eight.eight c.loop-j.j c.place-first.result c.args.apart c.eights-eights.ensures (omega arith) (omega arith)
    c.place-first.ensures c.requires.apart in
    omega (arith, there, c.requires.room.places (8 * c.loop-eight.eight + c.loop-j.j) (omega (arith, c.eights-eights.ensures.few)))

pub overflow_add-first : goal.overflow_add-first
overflow_add-first c =
    let there = even_place c.args.stretch.now c.eights-eights.result c.loop-eight.eight c.loop-j.j c.place-first.result c.args.apart c.eights-eights.ensures (omega arith) (omega arith)
    c.place-first.ensures c.requires.apart in
    omega (arith, there, c.requires.room.places (8 * c.loop-eight.eight + c.loop-j.j) (omega (arith, c.eights-eights.ensures.few)))

pub loop-j-preserved : goal.loop-j-preserved
loop-j-preserved c =
    let there = even_place c.args.stretch.now c.eights-eights.result c.loop-eight.eight c.loop-j.j c.place-first.result c.args.apart c.eights-eights.ensures (omega arith) (omega arith)
    c.place-first.ensures c.requires.apart in
    let k = 8 * c.loop-eight.eight + c.loop-j.j in
    let fits : FitsSigned w64 (get_or c.args.values.now (c.args.at + k) (pos 0)) = search rules in
    let next : k + 1 ≡ 8 * c.loop-eight.eight + (c.loop-j.j + 1) = omega arith in grind (arith, put_more, to_z-of_z)
