use Rattle.actors.proofs.Lemmas.{refl, arith, store_next, fetch_next, load_next}
use Rattle.actors.proofs.step.next_step.Goals as goal

pub returns-then-cursor-clause-next : goal.returns-then-cursor-clause-next
returns-then-cursor-clause-next g c = λ job are.
    let cursor = c.args.cursor.now in
    let here = c.requires.cursor in
    store_next job (are.each cursor.row (here.half_row c.if-cursor.true)) cursor c.cells-leaves.result c.place_behind-cursor.result refl c.if-cursor.true c.cells-leaves.ensures
    (here.half_from c.if-cursor.true) (here.half_in c.if-cursor.true) c.place_behind-cursor.ensures

pub returns-then-next-leaves-clause-next : goal.returns-then-next-leaves-clause-next
returns-then-next-leaves-clause-next g c = λ job are.
    let next = c.in-Some.next in
    fetch_next job (are.each next.row c.in-Some.ensures.row_in) c.args.cursor.now next c.if-cursor.false (c.in-Some.ensures.next job are) c.place_behind-cursor-then-next-leaves.result
    (omega (arith, c.if-next-leaves.true, c.cells-leaves.ensures)) c.place_behind-cursor-then-next-leaves.ensures

pub returns-clause-next : goal.returns-clause-next
returns-clause-next g c = λ job are.
    let next = c.in-Some.next in
    load_next job (are.each next.row c.in-Some.ensures.row_in) c.args.cursor.now next c.if-cursor.false (c.in-Some.ensures.next job are)
    (omega (arith, c.if-next-leaves.false, c.cells-leaves.ensures)) c.in-Some.ensures.task_in
