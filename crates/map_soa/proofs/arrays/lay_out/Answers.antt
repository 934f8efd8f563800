use Rattle.map_soa.proofs.Imports.{◌+◌, ℕ, sym, ap, ◌∙◌, arith, widths_of, alignment, common_steps}
use Rattle.map_soa.proofs.Placed.{placed_next, placed_le, stored_cells}
use Rattle.map_soa.proofs.arrays.lay_out.Goals as goal

pub returns-then-end-gt-MAX_BLOB_BITS-clause-too_big :
    goal.returns-then-end-gt-MAX_BLOB_BITS-clause-too_big
returns-then-end-gt-MAX_BLOB_BITS-clause-too_big c =
    let i : ℕ = c.loop-cell.cell-index in
    let placed = placed_next c.args.form c.args.slots c.args.cells.now i _ c.loop-cell.offsets.items c.loop-cell.end c.from.result c.align_of.result c.up-begin.result c.offset_of.result
    c.loop-cell-test.true (c.from.ensures ∙ c.width-width.ensures) (c.align_of.ensures ∙ ap (alignment c.args.form) (sym c.from.ensures))
    c.up-begin.ensures c.offset_of.ensures c.loop-cell.invariant.placed in
    λ _. omega (arith, placed_le c.args.form c.args.slots (widths_of c.args.cells.now) (i + 1) _ _ placed, c.if-end-gt-MAX_BLOB_BITS.true)

pub loop-cell-preserved : goal.loop-cell-preserved
loop-cell-preserved c = grind (arith, common_steps, placed_next)

pub returns-clause-stored : goal.returns-clause-stored
returns-clause-stored c =
    stored_cells c.args.form c.args.slots c.args.cells.now c.loop-cell.cell-index c.loop-cell.offsets.items c.loop-cell.end
    (omega (arith, c.loop-cell.auto.cell-index-end)) c.loop-cell-test.false c.loop-cell.invariant.placed
