use Rattle.subviews.proofs.Lemmas.{rules, arith, common_steps, ◌≡◌, ◌+◌, ◌-◌, ℕ, length, FitsSigned, ap, sym, subst, w128, to_z-of_z, Table, answer_of, kept_of, IsFilled, run_at, run_inside, none_filled, refused_here, taken_here, fill_stopped, filled_more, filled_all, buffer_row, buffer_leaf, row_held, row_inside}
use Rattle.subviews.proofs.rounds.fill.Goals as goal

pub loop-row-init : goal.loop-row-init
loop-row-init g c = record { filled = none_filled c.args.view.now c.args.buffer.now c.args.plan.now; walk = c.new-walk.ensures }

pub loop-outer-init : goal.loop-outer-init
loop-outer-init g c =
    let run = c.next_run-run.result in
    let place : run.row + c.fill_run-done.result ≡ c.loop-row.row + (run.first + c.fill_run-done.result - run.first) = omega (arith, c.next_run-run.ensures.row) in
    let before : IsFilled c.args.view.now c.loop-row.view c.args.buffer.now c.loop-row.buffer c.args.plan.now run.row =
    subst (λ (n : ℕ). IsFilled c.args.view.now c.loop-row.view c.args.buffer.now c.loop-row.buffer c.args.plan.now n) (sym c.next_run-run.ensures.row) c.loop-row.invariant.filled in
    record {
      low = omega arith;
      high = omega (arith, c.fill_run-done.ensures.few);
      filled = subst (λ (n : ℕ). IsFilled c.args.view.now c.fill_run-done.new.view c.args.buffer.now c.fill_run-done.new.buffer c.args.plan.now n) place
          (c.fill_run-done.ensures.filled c.args.view.now c.args.buffer.now c.requires.buffer before);
    }

pub value_at-value-requires-clause-row_in : goal.value_at-value-requires-clause-row_in
value_at-value-requires-clause-row_in g c =
    row_held c.args.plan.now.window.now (c.loop-row.row + (c.loop-outer.outer - c.next_run-run.result.first)) c.loop-outer.outer
    (run_at c.args.plan.now.window.now c.next_run-run.result c.loop-row.row c.loop-outer.outer c.next_run-run.ensures.run c.next_run-run.ensures.row c.loop-outer.invariant.low c.loop-outer-test.true)

pub overflow_add-outer-end : goal.overflow_add-outer-end
overflow_add-outer-end g c = omega (arith, run_inside c.args.plan.now.window.now c.next_run-run.result c.next_run-run.ensures.run, c.requires.plan.rows)

pub overflow_step-outer : goal.overflow_step-outer
overflow_step-outer g c =
    omega (arith, c.fill_run-done.ensures.few, run_inside c.args.plan.now.window.now c.next_run-run.result c.next_run-run.ensures.run, c.requires.plan.rows)

pub set-requires-clause-row_in : goal.set-requires-clause-row_in
set-requires-clause-row_in g c =
    let plan = c.args.plan.now in
    let below = run_inside plan.window.now c.next_run-run.result c.next_run-run.ensures.run in grind (arith, buffer_row)

pub returns-in-Err : goal.returns-in-Err
returns-in-Err g c =
    let plan = c.args.plan.now in
    let run = c.next_run-run.result in
    let outer = c.loop-outer.outer in
    let value = c.value_at-value.result in
    let fits : FitsSigned w128 value = search rules in
    let answer = rw (to_z-of_z w128 value fits) at c.set.ensures.answer in
    let at = run_at plan.window.now run c.loop-row.row outer c.next_run-run.ensures.run c.next_run-run.ensures.row c.loop-outer.invariant.low c.loop-outer-test.true in
    let stop = fill_stopped c.args.view.now c.loop-outer.view c.args.buffer.now c.loop-outer.buffer plan (c.loop-row.row + (outer - run.first)) outer value c.requires.buffer c.loop-outer.invariant.filled at
    c.value_at-value.ensures.value c.value_at-value.new.view c.in-Err.fault (refused_here (answer_of c.loop-outer.buffer plan.leaf value) c.set.result c.in-Err.fault answer c.in-Err.is) c.value_at-value.ensures.read in
    record { fits = tt; refused = stop.0; read = tt; so_far = stop.1; same = grind (arith, common_steps); filled = tt; buffer = grind (arith, common_steps) }

pub loop-outer-preserved : goal.loop-outer-preserved
loop-outer-preserved g c =
    let plan = c.args.plan.now in
    let old = c.args.view.now in
    let first = c.args.buffer.now in
    let buffer = c.loop-outer.buffer in
    let outer = c.loop-outer.outer in
    let k : ℕ = c.loop-row.row + (outer - c.next_run-run.result.first) in
    let value = c.value_at-value.result in
    let so_far = c.loop-outer.invariant.filled in
    let table = c.laws_of_table.ensures.table in
    let at = run_at plan.window.now c.next_run-run.result c.loop-row.row outer c.next_run-run.ensures.run c.next_run-run.ensures.row c.loop-outer.invariant.low c.loop-outer-test.true in
    let below = row_inside plan.window.now outer (row_held plan.window.now k outer at) in
    let row_in = buffer_row old first buffer plan outer c.requires.plan c.requires.buffer (ap (λ (t : Table). t.extents) so_far.same) table below in
    let leaf_in = buffer_leaf old first buffer plan c.requires.plan c.requires.buffer (ap (λ (t : Table). t.fields) so_far.same) in
    let fits : FitsSigned w128 value = search rules in
    let answer = rw (to_z-of_z w128 value fits) at c.set.ensures.answer in
    let stored = rw (c.in_default.is, to_z-of_z w128 value fits) at c.set.ensures.stored in
    let taken = taken_here value (answer_of buffer plan.leaf value) c.set.result answer c.in_default.is in
    let next : k + 1 ≡ c.loop-row.row + (outer + 1 - c.next_run-run.result.first) = omega (arith, c.loop-outer.invariant.low) in
    record {
      low = omega (arith, c.loop-outer.invariant.low);
      high = omega (arith, c.loop-outer-test.true);
      filled = subst (λ (n : ℕ). IsFilled old c.value_at-value.new.view first c.set.new.self plan n) next
          (filled_more old c.loop-outer.view first buffer plan k outer value c.requires.buffer so_far at c.value_at-value.ensures.value
          c.value_at-value.new.view c.set.new.self (kept_of buffer plan.leaf value) (length buffer.rows) taken table.shape row_in leaf_in c.value_at-value.ensures.read stored);
    }

pub returns-clause-filled : goal.returns-clause-filled
returns-clause-filled g c =
    filled_all c.args.view.now c.loop-row.view c.args.buffer.now c.loop-row.buffer c.args.plan.now c.loop-row.row (omega (arith, c.count-count.ensures.rows, c.loop-row-test.false)) c.loop-row.invariant.filled
