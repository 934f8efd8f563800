use Rattle.layout_copy.proofs.Lemmas.{arith, ◌≡◌, ◌<◌, ◌∙◌, ℕ, List, length, refl, ap, sym, indices, leaf_count_of, row_read, row_copied, row_refused, steps_more, rows_copied}
use Rattle.layout_copy.proofs.fieldwise.copy_fields.Goals as goal

pub returns-then-may_go_by_runs-clause-copied : goal.returns-then-may_go_by_runs-clause-copied
returns-then-may_go_by_runs-clause-copied g c =
    rows_copied c.args.source.now c.args.target.now c.copy_row_runs.new.target c.laws_of_table.ensures.table c.laws_of_table-then-may_go_by_runs.ensures.table c.requires.alike
    (c.if-may_go_by_runs.ensures.target refl) (c.if-may_go_by_runs.ensures.takes refl) c.copy_row_runs.ensures.rows

pub returns-in-Some-clause-copied : goal.returns-in-Some-clause-copied
returns-in-Some-clause-copied g c =
    let source = c.args.source.now in
    grind (arith, row_refused)

pub loop-row-preserved : goal.loop-row-preserved
loop-row-preserved g c =
    let source = c.args.source.now in
    let rows : length (indices c.extents.result) ≡ length source.rows = ap (λ (e : List ℕ). length (indices e)) c.extents.ensures.value ∙ sym c.extents.ensures.table.rows in
    let small : c.loop-row.row < length source.rows = omega (arith, c.loop-row-test.true, c.count-row-end.ensures.rows, rows) in
    let held = sym (rw c.loop-row.invariant.source at c.in_default.ensures.refused) in
    let stored = rw c.loop-row.invariant.source at c.in_default.ensures.stored in
    let read = rw (ap leaf_count_of c.loop-row.invariant.source) at c.in_default.ensures.all_read in
    let more = rw c.loop-row.invariant.source at c.copy_row.ensures.steps in
    record {
      source = row_read source c.loop-row.source c.copy_row.new.source (leaf_count_of source) c.loop-row.row c.loop-row.invariant.source read;
      values = c.copy_row.ensures.count ∙ c.loop-row.invariant.values;
      copied = row_copied source c.args.target.now c.loop-row.target c.copy_row.new.target c.loop-row.row small c.requires.rows c.loop-row.invariant.copied held stored;
      steps = steps_more c.args.steps.now c.loop-row.steps c.copy_row.new.steps c.loop-row.row (leaf_count_of source) c.loop-row.invariant.steps more;
    }
