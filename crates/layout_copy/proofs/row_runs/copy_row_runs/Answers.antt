use Rattle.layout_copy.proofs.Lemmas.{◌≡◌, ◌∙◌, ℕ, List, length, sym, ap, arith, indices, all_before}
use Rattle.layout_copy.proofs.row_runs.copy_row_runs.Goals as goal

pub returns-clause-rows : goal.returns-clause-rows
returns-clause-rows g c =
    let source = c.args.source.now in
    let rows : length (indices c.extents.result) ≡ length source.rows = ap (λ (e : List ℕ). length (indices e)) c.extents.ensures.value ∙ sym c.extents.ensures.table.rows in
    all_before source c.args.target.now c.loop-first.target c.loop-first.first c.requires.alike c.extents.ensures.table c.laws_of_table.ensures.table c.loop-first.invariant.same
    (omega (arith, c.loop-first-test.false, c.count-count.ensures.rows, rows)) c.loop-first.invariant.before
