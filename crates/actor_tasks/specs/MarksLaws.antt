-- The next place of a task, and of all tasks of a row.
use Rattle.std.proofs.Common.{◌≡◌, ℕ, ◌+◌, ◌-◌, ◌<◌, ◌≤◌, Bool, true, false, List, [], ◌∷◌, ◌++◌, length, map, drop, get_or, Option, Some, None, sym, ap, ◌∙◌, subst, arith}
use Rattle.std.specs.Prelude.{if◌then◌else◌}
use Rattle.actor_tasks.specs.Imports.{flat_map, range_with_len, Owner, Setting, Place, Job, Micro, get_or-append, length-map, get_or-map, get_or-append_right, length-append, drop_all, drop_more, length-map-range_with_len, get_or-map-range_with_len}
use Rattle.actor_tasks.specs.Places.{origin, places_from, byte_behind, IsHead}
use Rattle.actor_tasks.specs.Tasks.{Task, Reads, Sets, all_tasks, is_asked, task_leaf, place_steps, task_steps, tasks_steps}
use Rattle.actor_tasks.specs.TasksLaws.{next_place, next_task}
use Rattle.actor_tasks.specs.declared.rows.Asks.{Asks}
use Rattle.actor_tasks.specs.Marks.{IsRowOf, AreRowsOf, task_at, IsTaskNext}

-- a task that the row does not ask for has no byte
unasked : (job : Job) (row : ℕ) (from : Place) (task : Task) → is_asked job row task ≡ false → task_steps job row from task ≡ []
unasked job row from task e = ap (λ (t : Bool). if t then flat_map (place_steps row task) (places_from job.layout row (task_leaf task) from) else []) e

-- one that it asks for has the bytes of its leaf
asked : (job : Job) (row : ℕ) (from : Place) (task : Task) (result : Option Place) → is_asked job row task ≡ true → IsHead job.layout row (task_leaf task) from result
    → IsTaskNext job row from task result
asked job row from task result e head = grind (arith, flat_map)

-- some leaf is set where one has this number
some_set : (sets : List Setting) (n : ℕ) → n < length sets → Setting
some_set [] n low = absurd (omega arith)
some_set (set ∷ sets) n low = set

module _ {job : Job} {layout : List (List Owner)} {leaves : ℕ} {sets : List ℕ} {marks : List Bool} {through : Bool} {row : ℕ}
    (is : IsRowOf job layout leaves sets marks through row) (from : Place) (result : Option Place) where
  -- first come the leaves that may be read, each in its place
  read_at : (task : ℕ) → task < leaves → task_at job task ≡ Reads task
  read_at task low = grind (arith, get_or-append, range_with_len, length-map-range_with_len, get_or-map-range_with_len)

  -- and then those that are set
  many_sets : length job.sets ≡ length sets
  many_sets = sym (length-map job.sets (λ (s : Setting). s.leaf)) ∙ ap length is.sets_are

  set_at : (n : ℕ) (d : Setting) → n < length job.sets → task_at job (leaves + n) ≡ Sets (get_or job.sets n d)
  set_at n d inside =
      let front : length (map Reads (range_with_len 0 (length job.holds))) ≡ leaves = length-map-range_with_len Reads 0 (length job.holds) ∙ is.leaves_are in
      let back : leaves + n - leaves ≡ n = omega arith in grind (arith, get_or-append_right, range_with_len, get_or, get_or-map)

  -- the next byte of a leaf that the row reads, and of one that it does not read
  pub read_task : (task : ℕ) → task < leaves → get_or marks task false ≡ true → IsHead layout row task from result → IsTaskNext job row from (task_at job task) result
  read_task task low mark head = grind (arith, read_at, asked)

  pub no_read : (task : ℕ) → task < leaves → get_or marks task false ≡ false → IsTaskNext job row from (task_at job task) None
  no_read task low mark = ap (task_steps job row from) (read_at task low) ∙ unasked job row from (Reads task) (sym (is.asked_are task low) ∙ mark)

  -- that of a leaf that is set, where the filter lets the row through, and where it does not
  pub set_task : (n : ℕ) → n < length sets → through ≡ true → IsHead layout row (get_or sets n 0) from result → IsTaskNext job row from (task_at job (leaves + n)) result
  set_task n low let_through head =
      let inside : n < length job.sets = omega (arith, low, many_sets) in
      let d = some_set job.sets n inside in
      let leaf : get_or sets n 0 ≡ (get_or job.sets n d).leaf = ap (λ (w : List ℕ). get_or w n 0) (sym is.sets_are) ∙ get_or-map (λ (s : Setting). s.leaf) job.sets n d 0 inside in
      grind (arith, set_at, asked, get_or)

  pub no_set : (n : ℕ) → n < length sets → through ≡ false → IsTaskNext job row from (task_at job (leaves + n)) None
  no_set n low left_out =
      let inside : n < length job.sets = omega (arith, low, many_sets) in
      let d = some_set job.sets n inside in
      ap (task_steps job row from) (set_at n d inside) ∙ unasked job row from (Sets (get_or job.sets n d)) (sym is.through_is ∙ left_out)

-- a task with a next byte: its micro-steps there are the next ones
pub task_found : (job : Job) (row : ℕ) (from place : Place) (task : ℕ) (before : List Micro) (result : Option Place) → task < length (all_tasks job)
    → before ≡ tasks_steps job row from (drop task (all_tasks job)) → IsTaskNext job row from (task_at job task) result → result ≡ Some place
    → before ≡ place_steps row (task_at job task) place ++ tasks_steps job row (byte_behind place) (drop task (all_tasks job))
task_found job row from place task before result low so_far found is = grind (arith, drop_more, next_place)

-- and one without: what is left is that of the next task
pub task_done : (job : Job) (row : ℕ) (from : Place) (task : ℕ) (before : List Micro) (result : Option Place) → task < length (all_tasks job)
    → before ≡ tasks_steps job row from (drop task (all_tasks job)) → IsTaskNext job row from (task_at job task) result → result ≡ None
    → before ≡ tasks_steps job row origin (drop (task + 1) (all_tasks job))
task_done job row from task before result low so_far none is = grind (arith, drop_more, next_task)

-- behind the last task nothing is left
pub none_left : (job : Job) (row : ℕ) (from : Place) (n : ℕ) (before : List Micro) → length (all_tasks job) ≤ n → before ≡ tasks_steps job row from (drop n (all_tasks job)) → before ≡ []
none_left job row from n before past so_far = so_far ∙ ap (tasks_steps job row from) (drop_all n (all_tasks job) past)

-- how many tasks there are
pub task_count : {job : Job} {layout : List (List Owner)} {leaves : ℕ} {sets : List ℕ} {marks : List Bool} {through : Bool} {row : ℕ}
    → IsRowOf job layout leaves sets marks through row → length (all_tasks job) ≡ leaves + length sets
task_count {job} {layout} {leaves} {sets} is = grind (arith, range_with_len, length-map-range_with_len, length-map, length-append)

-- what is told of a row that is one of these
pub row_told : {job : Job} {layout : List (List Owner)} {leaves : ℕ} {sets : List ℕ} {asks : ℕ → Asks} {rows : ℕ} → AreRowsOf job layout leaves sets asks rows
    → (row : ℕ) (told : Asks) → row < rows → told ≡ asks row → IsRowOf job layout leaves sets told.reads told.through row
row_told {job} {layout} {leaves} {sets} are row told low is = subst (λ (a : Asks). IsRowOf job layout leaves sets a.reads a.through row) (sym is) (are.each row low)
