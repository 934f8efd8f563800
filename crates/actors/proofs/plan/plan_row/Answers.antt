use Rattle.actors.proofs.Lemmas.{[], map, get_or, subst, index_at, filter_term, setting_of, given_row, Table, answer_of, kept_of, job_of, IsRowPlanOf, row_updated}
use Rattle.actors.proofs.plan.plan_row.Goals as goal

pub returns-clause-planned : goal.returns-clause-planned
returns-clause-planned g c =
    subst (λ (t : Table). IsRowPlanOf (job_of t (filter_term c.args.filter) (map setting_of c.args.sets.now)) c.args.row c.plan_of.result) c.try_row.ensures.same c.plan_of.ensures

pub returns-clause-updated : goal.returns-clause-updated
returns-clause-updated g c =
    let view = c.args.view.now in
    let row = c.args.row in
    let sets = map setting_of c.args.sets.now in (
      given_row (kept_of view) sets _ (get_or view.rows row []),
      row_updated (answer_of view) row (get_or view.rows row []) (index_at view.extents row) (filter_term c.args.filter) sets (kept_of view) _ c.in_ok-_passed.ensures.tried,
    )
