use Rattle.map_aosoa.proofs.Imports.{ℕ, ◌+◌, ◌%◌, arith, ap, ◌∙◌, length_push, widths_of}
use Rattle.map_aosoa.proofs.Blocks.{end_next, end_below, lanes_bytes}
use Rattle.map_aosoa.proofs.block.lay_out.Goals as goal

pub returns-then-end-gt-MAX_BLOB_BITS-clause-too_big :
    goal.returns-then-end-gt-MAX_BLOB_BITS-clause-too_big
returns-then-end-gt-MAX_BLOB_BITS-clause-too_big c =
    let next = end_next c.args.lanes c.args.cells.now c.loop-cell.cell-index _ c.loop-cell.end c.from.result c.width.result c.from-in-loop-cell.result
    c.loop-cell-test.true c.width.ensures c.from.ensures c.from-in-loop-cell.ensures c.loop-cell.invariant.ends in
    λ _. omega (arith, next, (end_below c.args.lanes (widths_of c.args.cells.now) (c.loop-cell.cell-index + 1)), c.if-end-gt-MAX_BLOB_BITS.true)

pub loop-cell-preserved : goal.loop-cell-preserved
loop-cell-preserved c =
    let next = end_next c.args.lanes c.args.cells.now c.loop-cell.cell-index _ c.loop-cell.end c.from.result c.width.result c.from-in-loop-cell.result
    c.loop-cell-test.true c.width.ensures c.from.ensures c.from-in-loop-cell.ensures c.loop-cell.invariant.ends in
    grind (arith, length_push)

pub returns-clause-whole : goal.returns-clause-whole
returns-clause-whole c = ap (λ (n : ℕ). n % 8) c.loop-cell.invariant.ends ∙ lanes_bytes c.args.lanes c.args.cells.now c.loop-cell.cell-index
