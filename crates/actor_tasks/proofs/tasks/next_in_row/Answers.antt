use Rattle.actor_tasks.proofs.Imports.{drop, arith, all_tasks, tasks_steps, task_count, task_found, task_done, none_left}
use Rattle.actor_tasks.proofs.tasks.next_in_row.Goals as goal

pub returns-in-Some-clause-next : goal.returns-in-Some-clause-next
returns-in-Some-clause-next g c = λ job is.
    task_found job c.args.row c.loop-task.at c.in-Some.place c.loop-task.task (tasks_steps job c.args.row c.args.from (drop c.args.done (all_tasks job))) c.task_byte.result
    (omega (arith, c.loop-task-test.true, c.loop-task.auto.task-end, c.cells.ensures, task_count is)) (c.loop-task.invariant.so_far job is) (c.task_byte.ensures.next job is) c.in-Some.is

pub loop-task-preserved : goal.loop-task-preserved
loop-task-preserved g c = record {
  so_far = λ job is.
      task_done job c.args.row c.loop-task.at c.loop-task.task (tasks_steps job c.args.row c.args.from (drop c.args.done (all_tasks job))) c.task_byte.result
      (omega (arith, c.loop-task-test.true, c.loop-task.auto.task-end, c.cells.ensures, task_count is)) (c.loop-task.invariant.so_far job is) (c.task_byte.ensures.next job is) c.in_default.is;
}

pub returns-clause-next : goal.returns-clause-next
returns-clause-next g c = λ job is.
    none_left job c.args.row c.loop-task.at c.loop-task.task (tasks_steps job c.args.row c.args.from (drop c.args.done (all_tasks job)))
    (omega (arith, c.loop-task-test.false, c.loop-task.auto.task-end, c.cells.ensures, task_count is)) (c.loop-task.invariant.so_far job is)
