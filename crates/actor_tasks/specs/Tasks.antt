-- Where an actor stands in its rows, and what is left from there on.
use Rattle.std.specs.Prelude.{ℕ, zero, suc, ◌+◌, Bool, List, [], ◌∷◌, ◌++◌, length, map, drop, if◌then◌else◌}
use Rattle.actor_tasks.specs.Imports.{flat_map, range_with_len, Place, Setting, Job, Micro, Fetch, lets_through, leaves_read, is_in, changes, steps_of}
use Rattle.actor_tasks.specs.Places.{origin, places_from}

-- a leaf is loaded for values, or is set
pub data Task : Type 0 where
  Reads : (leaf : ℕ) → Task
  Sets : (set : Setting) → Task

-- all that a row may ask for, in order: the same for every row
abbrev pub all_tasks : Job → List Task
all_tasks job = map Reads (range_with_len 0 (length job.holds)) ++ map Sets job.sets

-- whether a row asks for a task
abbrev pub is_asked : Job → ℕ → Task → Bool
is_asked job row (Reads leaf) = is_in (leaves_read job row) leaf
is_asked job row (Sets set) = lets_through job row

-- the leaf whose bytes it takes
abbrev pub task_leaf : Task → ℕ
task_leaf (Reads leaf) = leaf
task_leaf (Sets set) = set.leaf

-- its micro-steps at a byte
abbrev pub place_steps : ℕ → Task → Place → List Micro
place_steps row (Reads leaf) place = Fetch place ∷ []
place_steps row (Sets set) place = changes row set place

-- what is left of a task from a place on
abbrev pub task_steps : Job → ℕ → Place → Task → List Micro
task_steps job row from task = if is_asked job row task then flat_map (place_steps row task) (places_from job.layout row (task_leaf task) from) else []

-- what is left of some tasks, of the first from a place on
abbrev pub tasks_steps : Job → ℕ → Place → List Task → List Micro
tasks_steps job row from [] = []
tasks_steps job row from (task ∷ tasks) = task_steps job row from task ++ flat_map (task_steps job row origin) tasks

-- where an actor stands: its row, how many come behind it, how many tasks are done, and from which byte on the next one goes on
pub record Worker : Type 0 where
  pub row : ℕ
  pub more : ℕ
  pub done : ℕ
  pub from : Place

-- what is left from there on
abbrev pub left_of : Job → Worker → List Micro
left_of job worker = tasks_steps job worker.row worker.from (drop worker.done (all_tasks job)) ++ steps_of job (worker.row + 1) worker.more

-- what is left of so many rows from one on, of which so many tasks are done and the next one goes on from a byte; nothing where there is no row
abbrev pub left_in : Job → ℕ → ℕ → ℕ → Place → List Micro
left_in job row zero done from = []
left_in job row (suc more) done from = left_of job (record { row = row; more = more; done = done; from = from })
