use Rattle.actor_tasks.proofs.Imports.{◌≡◌, length, drop, Job, all_tasks, tasks_steps, IsRowOf}
use Rattle.actor_tasks.proofs.tasks.next_in_row.Given as goal

abbrev pub invariant-loop-task : goal.invariant-loop-task
invariant-loop-task g l = record {
  so_far : (job : Job) → IsRowOf job (g.M.Mapping.layout l.mapping) (length (g.M.Mapping.cell_list l.mapping)) l.sets l.asked l.through l.row
      → tasks_steps job l.row l.fn.from (drop l.done (all_tasks job)) ≡ tasks_steps job l.row l.at (drop l.task (all_tasks job));
}
