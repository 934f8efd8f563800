use Rattle.linearize.proofs.Imports.{◌≡◌, ◌-◌, ◌+◌, ◌<◌, length, arith, reverse, row_so_far_le, place, IsInside-reverse}
use Rattle.linearize.proofs.SlotLemmas.{place_fits, column_turn, same_length}
use Rattle.linearize.proofs.place_by_columns.Goals as goal

pub overflow_mul-place : goal.overflow_mul-place
overflow_mul-place c =
    let next : c.loop-d.d - 1 + 1 ≡ c.loop-d.d = omega arith in
    let within : c.loop-d.d - 1 < length c.args.extents.now = omega arith in
    let same = same_length c.args.extents.now c.args.index.now c.requires.inside in
    let turn = column_turn c.args.extents.now c.args.index.now c.loop-d.d (c.loop-d.d - 1) c.loop-d.place (place (reverse c.args.extents.now) (reverse c.args.index.now)) next within same c.loop-d.invariant in
    omega (arith, row_so_far_le _ _ _ _ turn, place_fits (reverse c.args.extents.now) (reverse c.args.index.now) c.requires.few (IsInside-reverse c.args.extents.now c.args.index.now c.requires.inside))

pub overflow_add-place : goal.overflow_add-place
overflow_add-place c =
    let next : c.loop-d.d - 1 + 1 ≡ c.loop-d.d = omega arith in
    let within : c.loop-d.d - 1 < length c.args.extents.now = omega arith in
    let same = same_length c.args.extents.now c.args.index.now c.requires.inside in
    let turn = column_turn c.args.extents.now c.args.index.now c.loop-d.d (c.loop-d.d - 1) c.loop-d.place (place (reverse c.args.extents.now) (reverse c.args.index.now)) next within same c.loop-d.invariant in
    omega (arith, row_so_far_le _ _ _ _ turn, place_fits (reverse c.args.extents.now) (reverse c.args.index.now) c.requires.few (IsInside-reverse c.args.extents.now c.args.index.now c.requires.inside))
