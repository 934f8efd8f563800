use Rattle.actors.proofs.Lemmas.{rules, arith, ◌≡◌, ◌<◌, ◌+◌, [], Err, length, map, get_or, subst, sym, index_at, update_log, filter_term, setting_of, updated_row, Table, answer_of, kept_of, after_log, job_of, Update, NoMemory, IsRowPlanOf, ArePlans, IsUpdatedRow, reads_in, no_plans, one_plan, none_tried, one_read, one_tried, stop_tried}
use Rattle.actors.proofs.plan.plan_rows.Given as given
use Rattle.actors.proofs.plan.plan_rows.Goals as goal
use Rattle.actors.proofs.plan.plan_rows.Goals.{After-plan_row}

pub loop-row-init : goal.loop-row-init
loop-row-init g c =
    let filter = filter_term c.args.filter in
    let sets = map setting_of c.args.sets.now in
    record {
      tried = none_tried c.args.view.now filter sets;
      plans = subst (ArePlans (job_of c.args.view.now filter sets) 0) (sym c.new-plans.ensures.items) (no_plans (job_of c.args.view.now filter sets));
    }

-- the row that is tried is one of the view
inside : (g : given.Over) (c : After-plan_row g) → c.loop-row.row < length c.args.view.now.rows
inside g c = grind arith

-- what was read up to and with it
read : (g : given.Over) (c : After-plan_row g)
    → c.plan_row.new.view ≡ after_log c.args.view.now (reads_in (update_log c.args.view.now (filter_term c.args.filter) (map setting_of c.args.sets.now) (c.loop-row.row + 1)))
read g c =
    one_read c.args.view.now (filter_term c.args.filter) (map setting_of c.args.sets.now) c.loop-row.view c.plan_row.new.view c.loop-row.row c.loop-row.invariant.tried
    c.plan_row.ensures.read

pub returns-in_err-plan_row-clause-refused : goal.returns-in_err-plan_row-clause-refused
returns-in_err-plan_row-clause-refused g c =
    let view = c.args.view.now in
    let row = c.loop-row.row in
    let filter = filter_term c.args.filter in
    let sets = map setting_of c.args.sets.now in
    let tried = c.loop-row.invariant.tried in
    let fault = c.in_err-plan_row.field-0.0 in
    let is : c.from_residual.result ≡ Err (Update fault) = search rules in
    let small = inside g ((goal.at.returns-in_err-plan_row-clause-refused g c).After-plan_row) in
    let stop = subst (λ (t : Table). updated_row (answer_of t) (kept_of t) filter sets row (get_or t.rows row []) (index_at t.extents row) ≡ Err fault) tried.read c.in_err-plan_row.ensures.refused in
    rw is (stop_tried view filter sets c.loop-row.view row (length view.rows) fault small tried stop)

pub returns-in_err-plan_row-clause-so_far : goal.returns-in_err-plan_row-clause-so_far
returns-in_err-plan_row-clause-so_far g c =
    let is : c.from_residual.result ≡ Err (Update c.in_err-plan_row.field-0.0) = search rules in
    rw (is, c.in_err-plan_row.ensures.named) (read g ((goal.at.returns-in_err-plan_row-clause-so_far g c).After-plan_row))

pub returns-in_err-push-clause-so_far : goal.returns-in_err-push-clause-so_far
returns-in_err-push-clause-so_far g c =
    let here = (goal.at.returns-in_err-push-clause-so_far g c).After-plan_row in
    let is : c.from_residual-in_err-push.result ≡ Err NoMemory = search rules in
    let small = inside g here in
    rw is (c.loop-row.row + 1, omega arith, read g here)

pub loop-row-preserved : goal.loop-row-preserved
loop-row-preserved g c =
    let view = c.args.view.now in
    let here = c.loop-row.view in
    let row = c.loop-row.row in
    let filter = filter_term c.args.filter in
    let sets = map setting_of c.args.sets.now in
    let job = job_of view filter sets in
    let tried = c.loop-row.invariant.tried in
    let plan = c.in_ok-plan_row.field-0 in
    let updated = subst (λ (t : Table). IsUpdatedRow (updated_row (answer_of t) (kept_of t) filter sets row (get_or t.rows row []) (index_at t.extents row))) tried.read c.in_ok-plan_row.ensures.updated in
    let planned = subst (λ (t : Table). IsRowPlanOf (job_of t filter sets) row plan) tried.read c.in_ok-plan_row.ensures.planned in
    record {
      tried = one_tried view filter sets here c.plan_row.new.view row tried updated (read g ((goal.at.loop-row-preserved g c).After-plan_row));
      plans = subst (ArePlans job (row + 1)) (sym c.in_ok-push.ensures.items) (one_plan job row c.loop-row.plans.items plan c.loop-row.invariant.plans planned);
    }
