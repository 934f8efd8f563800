use Rattle.subviews.proofs.Lemmas.{◌<◌, ◌≤◌, ◌∙◌, ℕ, ℤ, pos, List, FitsSigned, w64, length, get_or, ap, arith, ints, indices, index_at_inside, row_from, IsStep, target, row_held, row_inside, reach_inside, step_at, step_more, whole_target, landed, far_from_one}
use Rattle.subviews.proofs.far.far_of.Goals as goal
use Rattle.subviews.proofs.far.far_of.Goals.{After-deref}

-- a component of the index so far away, that of the first row, and how far away it lies
step : (c : After-deref) → IsStep (get_or (target c.args.window.now c.args.offsets.now.items c.outer-first.result) c.loop-dimension.dimension 0) (get_or c.deref.result.now c.loop-dimension.dimension 0) (get_or c.args.offsets.now.items c.loop-dimension.dimension (pos 0))
step c =
    rw c.deref.ensures.0 (step_at c.args.window.now c.args.offsets.now.items c.outer-first.result c.loop-dimension.dimension c.extents-extents.result c.index_of-from.result.items c.extents-extents.ensures c.rank-dimension-end.ensures.extents c.requires.reach
    c.outer-first.ensures.entry c.index_of-from.ensures.entry (omega (arith, c.loop-dimension-test.true, c.rank-dimension-end.ensures.value)))

pub overflow_cast-deref : goal.overflow_cast-deref
overflow_cast-deref c = let here = step (goal.at.overflow_cast-deref c).After-deref in omega (arith, ints, here.near)

pub overflow_add-deref : goal.overflow_add-deref
overflow_add-deref c =
    let here = step (goal.at.overflow_add-deref c).After-deref in
    let offered = ap (λ (list : List ℤ). get_or list c.loop-dimension.dimension (pos 0)) c.deref-in-loop-dimension.ensures.0 in
    let fits : FitsSigned w64 (get_or c.deref-in-loop-dimension.result.now c.loop-dimension.dimension (pos 0)) = omega (arith, ints, here.away, here.small, here.near, offered) in
    omega (arith, ints, here.away, here.small, here.near, offered, fits)

pub overflow_cast-deref-in-loop-dimension : goal.overflow_cast-deref-in-loop-dimension
overflow_cast-deref-in-loop-dimension c =
    let here = step (goal.at.overflow_cast-deref-in-loop-dimension c).After-deref in
    let offered = ap (λ (list : List ℤ). get_or list c.loop-dimension.dimension (pos 0)) c.deref-in-loop-dimension.ensures.0 in
    let fits : FitsSigned w64 (get_or c.deref-in-loop-dimension.result.now c.loop-dimension.dimension (pos 0)) = omega (arith, ints, here.away, here.small, here.near, offered) in
    omega (arith, ints, here.away, here.small, here.near, offered, fits)

pub loop-dimension-preserved : goal.loop-dimension-preserved
loop-dimension-preserved c =
    let d = c.loop-dimension.dimension in
    let within : d < length c.extents-extents.result = omega (arith, c.loop-dimension-test.true, c.rank-dimension-end.ensures.value) in
    let here = step (goal.at.loop-dimension-preserved c).After-deref in
    let offered = ap (λ (list : List ℤ). get_or list d (pos 0)) c.deref-in-loop-dimension.ensures.0 in
    let fits : FitsSigned w64 (get_or c.deref-in-loop-dimension.result.now d (pos 0)) = omega (arith, ints, here.away, here.small, here.near, offered) in
    step_more c.args.window.now c.args.offsets.now.items c.outer-first.result d c.loop-dimension.index.items c.push.new.self.items _ c.requires.reach c.outer-first.ensures.entry
    (omega (arith, within, ap (λ (e : List ℕ). length e) c.extents-extents.ensures)) c.loop-dimension.invariant c.push.ensures.items (omega (arith, ints, here.away, here.small, here.near, offered, fits))

pub row_of-requires : goal.row_of-requires
row_of-requires c =
    let window = c.args.window.now in
    let offsets = c.args.offsets.now.items in
    let first = c.outer-first.result in
    let whole = whole_target window offsets first c.loop-dimension.dimension c.requires.reach (row_held window 0 first c.outer-first.ensures.entry)
    (omega (arith, c.loop-dimension-test.false, c.rank-dimension-end.ensures.value, ap (λ (e : List ℕ). length e) c.extents-extents.ensures)) in
    let inside = index_at_inside window.0 (row_from window.0 first offsets) (reach_inside window offsets first c.requires.reach (row_held window 0 first c.outer-first.ensures.entry)) in
    rw (c.extents-extents.ensures, c.deref-2.ensures.0, c.loop-dimension.invariant, whole) inside

pub returns : goal.returns
returns c =
    let window = c.args.window.now in
    let offsets = c.args.offsets.now.items in
    let first = c.outer-first.result in
    let held = row_held window 0 first c.outer-first.ensures.entry in
    let past : length c.extents-extents.result ≤ c.loop-dimension.dimension = omega (arith, c.loop-dimension-test.false, c.rank-dimension-end.ensures.value) in
    let to = landed window offsets first c.loop-dimension.dimension c.row_of.result c.extents-extents.result c.deref-2.result.now c.extents-extents.ensures c.requires.reach c.outer-first.ensures.entry
    past (c.deref-2.ensures.0 ∙ c.loop-dimension.invariant) c.row_of.ensures.entry in
    let inside = row_inside window first held in
    let few = ap (λ (e : List ℕ). length (indices e)) c.extents-extents.ensures in
    far_from_one window offsets first _ c.requires.reach held (omega (arith, ints, to, inside, few, c.row_of.ensures.below, c.rank-dimension-end.ensures.extents.rows))
