use Rattle.map_aos.proofs.Imports.{◌≡◌, ◌+◌, ℕ, ◌∙◌, arith, length-set, common_steps}
use Rattle.map_aos.proofs.Parts.{next_at, placed_next, widest_more, stored_all, placed_below}
use Rattle.map_aos.proofs.part.lay_out.Goals as goal

pub up-offset-requires-clause-some : goal.up-offset-requires-clause-some
up-offset-requires-clause-some c = grind (arith, common_steps, next_at)

pub index_mut-requires : goal.index_mut-requires
index_mut-requires c = grind (arith, common_steps, next_at)

pub returns-then-end-gt-MAX_BLOB_BITS-clause-too_big :
    goal.returns-then-end-gt-MAX_BLOB_BITS-clause-too_big
returns-then-end-gt-MAX_BLOB_BITS-clause-too_big c =
    let order = c.deref-cell-items.result.now in
    let i : ℕ = c.loop-cell.cell-index in
    let is : order ≡ _ = c.deref-cell-items.ensures.value ∙ c.in_ok-order.ensures in
    let placed = placed_next c.args.form c.args.cells.now order is i (0, 0) c.loop-cell.offsets.items c.loop-cell.end c.align_of-align.result c.up-offset.result c.from.result
    c.loop-cell-test.true c.loop-cell.invariant.count c.align_of-align.ensures c.up-offset.ensures c.from.ensures c.loop-cell.invariant.placed in
    λ _ slot. omega (arith, placed_below c.args.form c.args.cells.now order is (i + 1) _ (c.up-offset.result + c.from.result) slot placed, c.if-end-gt-MAX_BLOB_BITS.true)

pub loop-cell-preserved : goal.loop-cell-preserved
loop-cell-preserved c =
    let order = c.deref-cell-items.result.now in
    let i : ℕ = c.loop-cell.cell-index in
    let next = next_at c.args.form c.args.cells.now order (c.deref-cell-items.ensures.value ∙ c.in_ok-order.ensures) i (0, 0) c.loop-cell-test.true in
    let wide = widest_more c.args.form order i (0, 0) c.loop-cell-test.true in grind (arith, placed_next, length-set)

pub returns-then-size-gt-MAX_BLOB_BITS-clause-too_big :
    goal.returns-then-size-gt-MAX_BLOB_BITS-clause-too_big
returns-then-size-gt-MAX_BLOB_BITS-clause-too_big c =
    let order = c.deref-cell-items.result.now in
    let is : order ≡ _ = c.deref-cell-items.ensures.value ∙ c.in_ok-order.ensures in
    let all = stored_all c.args.form c.args.cells.now order is c.loop-cell.cell-index c.loop-cell.offsets.items c.loop-cell.end c.loop-cell.widest c.up-size.result
    c.loop-cell-test.false c.loop-cell.invariant.count c.loop-cell.invariant.widest c.up-size.ensures c.loop-cell.invariant.placed in
    λ _ slot. omega (arith, all.size slot, c.if-size-gt-MAX_BLOB_BITS.true)

pub returns-clause-stored : goal.returns-clause-stored
returns-clause-stored c =
    let order = c.deref-cell-items.result.now in
    let is : order ≡ _ = c.deref-cell-items.ensures.value ∙ c.in_ok-order.ensures in
    stored_all c.args.form c.args.cells.now order is c.loop-cell.cell-index c.loop-cell.offsets.items c.loop-cell.end c.loop-cell.widest c.up-size.result
    c.loop-cell-test.false c.loop-cell.invariant.count c.loop-cell.invariant.widest c.up-size.ensures c.loop-cell.invariant.placed
