use Rattle.actor_tasks.proofs.Imports.{◌≡◌, ℕ, ◌+◌, ◌-◌, length, get_or, None, ap, subst, arith, IsHead, IsTaskNext, task_at, read_task, no_read, set_task, no_set}
use Rattle.actor_tasks.proofs.tasks.task_byte.Goals as goal

pub returns-then-not-asked-task-clause-next : goal.returns-then-not-asked-task-clause-next
returns-then-not-asked-task-clause-next g c = λ job is.
    no_read is c.args.from None c.args.task (omega (arith, c.if-task-leaves.true, c.cells-leaves.ensures)) c.if-not-asked-task.true

pub returns-then-task-leaves-clause-next : goal.returns-then-task-leaves-clause-next
returns-then-task-leaves-clause-next g c = λ job is.
    read_task is c.args.from c.leaf_byte.result c.args.task (omega (arith, c.if-task-leaves.true, c.cells-leaves.ensures)) c.if-not-asked-task.false c.leaf_byte.ensures.head

pub returns-then-not-through-clause-next : goal.returns-then-not-through-clause-next
returns-then-not-through-clause-next g c = λ job is.
    let leaves = length (g.M.Mapping.cell_list c.args.mapping.now) in
    let n = c.args.task - leaves in
    let whole : leaves + n ≡ c.args.task = omega (arith, c.if-task-leaves.false, c.cells-leaves.ensures) in
    subst (λ (t : ℕ). IsTaskNext job c.args.row c.args.from (task_at job t) None) whole
    (no_set is c.args.from None n (omega (arith, c.requires.task_in, whole)) c.if-not-through.true)

pub returns-clause-next : goal.returns-clause-next
returns-clause-next g c = λ job is.
    let leaves = length (g.M.Mapping.cell_list c.args.mapping.now) in
    let n = c.args.task - leaves in
    let whole : leaves + n ≡ c.args.task = omega (arith, c.if-task-leaves.false, c.cells-leaves.ensures) in
    let number : c.args.task - c.cells-leaves.result ≡ n = ap (λ (w : ℕ). c.args.task - w) c.cells-leaves.ensures in
    let head = subst (λ (w : ℕ). IsHead (g.M.Mapping.layout c.args.mapping.now) c.args.row (get_or c.args.sets.now w 0) c.args.from c.leaf_byte-2.result) number c.leaf_byte-2.ensures.head in
    subst (λ (t : ℕ). IsTaskNext job c.args.row c.args.from (task_at job t) c.leaf_byte-2.result) whole
    (set_task is c.args.from c.leaf_byte-2.result n (omega (arith, c.requires.task_in, whole)) c.if-not-through.false head)
