use Rattle.subviews.proofs.Lemmas.{arith, ◌≡◌, ◌+◌, ◌-◌, ◌≤◌, Some, subst, mod_below, rows_of, slice_get, common_steps, rows_grow, run_between}
use Rattle.subviews.proofs.runs.run_length.Goals as goal

pub overflow_add-row : goal.overflow_add-row
overflow_add-row c = omega (arith, c.requires.narrow, c.count-count.ensures.rows, c.count-count.ensures.few, c.requires.row_in)

pub overflow_sub-outer : goal.overflow_sub-outer
overflow_sub-outer c =
    let window = c.args.window.now in
    let last = c.min-last.result - 1 in
    let ordered : c.args.row ≤ last = omega (arith, c.min-last.ensures, c.count-count.ensures.rows, c.requires.row_in, mod_below c.args.row c.args.width c.requires.some) in
    let past : last ≡ c.args.row + (last - c.args.row) = omega (arith, ordered) in
    omega (arith, rows_grow window c.args.row (last - c.args.row) c.args.outer c.outer.result c.requires.entry (subst (λ m. slice_get (rows_of window) m ≡ Some c.outer.result) past c.outer.ensures.entry))

pub returns-then-outer-last-clause-run : goal.returns-then-outer-last-clause-run
returns-then-outer-last-clause-run c = grind (arith, common_steps, mod_below, rows_grow, slice_get, run_between)
