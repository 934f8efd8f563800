use Rattle.actors.proofs.Lemmas.{map, filter_term, setting_of, job_of, ArePlans, AreTried}
use Rattle.actors.proofs.plan.plan_rows.Given as goal

abbrev pub invariant-loop-row : goal.invariant-loop-row
invariant-loop-row g l = record {
  tried : AreTried l.initial.view (filter_term l.filter) (map setting_of l.sets) l.view l.row;
  plans : ArePlans (job_of l.initial.view (filter_term l.filter) (map setting_of l.sets)) l.row l.plans.items;
}
