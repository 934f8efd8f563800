use Rattle.lane_kernels.proofs.Imports.{rules, ◌≡◌, ◌+◌, ◌-◌, ◌*◌, Err, length, take, ℕ, List, ap, sym, ◌∙◌, arith, length-take, indices, cost, row_cost, common_steps}
use Rattle.lane_kernels.proofs.Stepping.{IsStep, at_start, step_next, spent_more, spent_most}
use Rattle.lane_kernels.proofs.Whole.{none_done, none_run, seen_number, seen_rows, more_done, stops}
use Rattle.lane_kernels.proofs.plain.run_rows.Given as given
use Rattle.lane_kernels.proofs.plain.run_rows.Goals as goal
use Rattle.lane_kernels.proofs.plain.run_rows.Goals.{After-count-count, After-step_at-step}

-- as many rows as the loop goes through
count_is : (g : given.Over) (c : goal.After-count-count g) → c.count-count.result ≡ length c.args.view.now.rows
count_is g c = c.count-count.ensures.rows ∙ ap (λ (e : List ℕ). length (indices e)) c.extents.ensures.value ∙ sym c.extents.ensures.table.rows

pub returns-then-count-eq0-clause-run : goal.returns-then-count-eq0-clause-run
returns-then-count-eq0-clause-run g c = grind (arith, common_steps, count_is, none_run)

pub loop-row-init : goal.loop-row-init
loop-row-init g c =
    let count = length c.args.view.now.rows in
    let all : count - 0 ≡ count = omega arith in
    record {
      done = none_done c.args.view.now c.args.kernel.now;
      inside = omega arith;
      at = λ counted. at_start c.args.lanes count c.requires.some;
      spent = ap (λ (n : ℕ). c.args.steps.now + row_cost c.args.kernel.now * cost c.counts_nothing-uncounted.result c.args.lanes n) all;
    }

-- the rows of a turn
next_is : (g : given.Over) (c : goal.After-step_at-step g) → IsStep c.counts_nothing-uncounted.result c.args.lanes (length c.args.view.now.rows) c.loop-row.row c.step_at-step.result
next_is g c = grind (arith, step_next)

held : (g : given.Over) (c : goal.After-step_at-step g) → length (take c.step_at-step.result c.loop-row.values) ≡ c.step_at-step.result
held g c = omega (arith, length-take c.step_at-step.result c.loop-row.values, c.loop-row.auto.values, c.requires.values, (next_is g c).few)

pub on_rows-requires-clause-rows : goal.on_rows-requires-clause-rows
on_rows-requires-clause-rows g c =
    let at = (goal.at.on_rows-requires-clause-rows g c).After-step_at-step in
    let next = next_is g at in
    let long = held g at in
    let done = c.loop-row.invariant.done in grind (arith, seen_rows, seen_number)

pub returns-in_err-number-clause-run : goal.returns-in_err-number-clause-run
returns-in_err-number-clause-run g c =
    let at = (goal.at.returns-in_err-number-clause-run g c).After-step_at-step in
    let long = held g at in
    let view = c.args.view.now in
    let kernel = c.args.kernel.now in
    let fault = c.in_err-number.field-0.0 in
    let done = c.loop-row.invariant.done in
    let is : c.from_residual.result ≡ Err fault = search rules in
    let taken = rw long at c.in_err-number.ensures.taken in
    rw is (stops view c.loop-row.view c.on_rows.new.view kernel c.counts_nothing-uncounted.result c.args.lanes c.loop-row.row c.step_at-step.result c.loop-row.number fault done (next_is g at)
    c.counts_nothing-uncounted.ensures (seen_rows view c.loop-row.view kernel c.loop-row.row c.loop-row.number done) taken)

pub returns-in_err-number-clause-steps : goal.returns-in_err-number-clause-steps
returns-in_err-number-clause-steps g c =
    let at = (goal.at.returns-in_err-number-clause-steps g c).After-step_at-step in
    let long = held g at in
    let left = length c.args.view.now.rows - (c.loop-row.row + c.step_at-step.result) in
    let uncounted = c.counts_nothing-uncounted.result in
    let took = rw long at c.on_rows.ensures.steps in
    let spent = spent_more uncounted c.args.lanes (length c.args.view.now.rows) c.loop-row.row c.step_at-step.result (row_cost c.args.kernel.now) c.args.steps.now c.loop-row.steps c.on_rows.new.steps (next_is g at) c.loop-row.invariant.spent took in
    spent_most uncounted c.args.lanes (length c.args.view.now.rows) (row_cost c.args.kernel.now) c.args.steps.now c.on_rows.new.steps (cost uncounted c.args.lanes left) c.requires.some c.requires.few spent

pub loop-row-preserved : goal.loop-row-preserved
loop-row-preserved g c =
    let at = (goal.at.loop-row-preserved g c).After-step_at-step in
    let long = held g at in
    let next = next_is g at in
    let view = c.args.view.now in
    let kernel = c.args.kernel.now in
    let taken = rw long at c.in_ok-number.ensures.taken in
    let more = rw long at c.in_ok-number.ensures.number in
    let took = rw long at c.on_rows.ensures.steps in
    record {
      done = more_done view c.loop-row.view c.on_rows.new.view kernel c.loop-row.row c.step_at-step.result c.loop-row.number c.in_ok-number.number c.loop-row.invariant.done c.loop-row.invariant.inside taken more;
      inside = next.room;
      at = next.next;
      spent = spent_more c.counts_nothing-uncounted.result c.args.lanes (length view.rows) c.loop-row.row c.step_at-step.result (row_cost kernel) c.args.steps.now c.loop-row.steps c.on_rows.new.steps next c.loop-row.invariant.spent took;
    }

pub returns-clause-run : goal.returns-clause-run
returns-clause-run g c = grind (arith, common_steps, count_is)
