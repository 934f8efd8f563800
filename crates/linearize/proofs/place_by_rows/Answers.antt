use Rattle.linearize.proofs.Imports.{arith, row_turn, row_so_far_le}
use Rattle.linearize.proofs.SlotLemmas.{place_fits}
use Rattle.linearize.proofs.place_by_rows.Goals as goal

pub overflow_mul-place : goal.overflow_mul-place
overflow_mul-place c =
    let s = c.in-Some.ensures.steps in
    let turn = row_turn _ _ _ _ _ _ _ _ s.1 s.0 c.loop-component.invariant.2 in
    omega (arith, row_so_far_le _ _ _ _ turn, place_fits c.args.extents.now c.args.index.now c.requires.few c.requires.inside)

pub overflow_add-place : goal.overflow_add-place
overflow_add-place c =
    let s = c.in-Some.ensures.steps in
    let turn = row_turn _ _ _ _ _ _ _ _ s.1 s.0 c.loop-component.invariant.2 in
    omega (arith, row_so_far_le _ _ _ _ turn, place_fits c.args.extents.now c.args.index.now c.requires.few c.requires.inside)
