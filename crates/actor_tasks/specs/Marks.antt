-- What an actor knows of its rows, and the next byte of a task, of a row and of all rows.
use Rattle.std.specs.Prelude.{ℕ, ◌≡◌, ◌-◌, ◌<◌, Bool, true, false, List, [], ◌∷◌, ◌++◌, length, map, drop, slice_index_or, Option, Some, None}
use Rattle.actor_tasks.specs.Imports.{Owner, Place, Job, lets_through, leaves_read, is_in}
use Rattle.actor_tasks.specs.Places.{places_from, byte_behind}
use Rattle.actor_tasks.specs.Tasks.{Task, Reads, all_tasks, is_asked, task_leaf, place_steps, task_steps, tasks_steps, left_in}
use Rattle.actor_tasks.specs.declared.rows.Asks.{Asks}
use Rattle.actor_tasks.specs.declared.rows.NextByte.{NextByte}

-- a row of a job: its layout and leaves, the leaves that are set, those that the row reads, and whether the filter lets it through
pub record IsRowOf (job : Job) (layout : List (List Owner)) (leaves : ℕ) (sets : List ℕ) (asked : List Bool) (through : Bool) (row : ℕ) : Type 0 where
  pub layout_is : job.layout ≡ layout
  pub leaves_are : length job.holds ≡ leaves
  pub sets_are : map (λ set. set.leaf) job.sets ≡ sets
  pub asked_are : (leaf : ℕ) → leaf < leaves → slice_index_or asked leaf false ≡ is_in (leaves_read job row) leaf
  pub through_is : through ≡ lets_through job row

-- the task of this number
abbrev pub task_at : Job → ℕ → Task
task_at job task = slice_index_or (all_tasks job) task (Reads 0)

-- the next byte of a task, where it has one
abbrev pub IsTaskNext : Job → ℕ → Place → Task → Option Place → Type 0
IsTaskNext job row from task None = task_steps job row from task ≡ []
IsTaskNext job row from task (Some place) =
    (is_asked job row task ≡ true) × (places_from job.layout row (task_leaf task) from ≡ place ∷ places_from job.layout row (task_leaf task) (byte_behind place))

-- the next byte of the tasks of a row from one of them on, where they have one: its task, and the byte
abbrev pub IsRowNext : Job → ℕ → ℕ → Place → Option (ℕ × Place) → Type 0
IsRowNext job row done from None = tasks_steps job row from (drop done (all_tasks job)) ≡ []
IsRowNext job row done from (Some next) =
    tasks_steps job row from (drop done (all_tasks job)) ≡ place_steps row (task_at job next.0) next.1 ++ tasks_steps job row (byte_behind next.1) (drop next.0 (all_tasks job))

-- what so many rows ask for is what the job says
pub record AreRowsOf (job : Job) (layout : List (List Owner)) (leaves : ℕ) (sets : List ℕ) (asks : ℕ → Asks) (rows : ℕ) : Type 0 where
  pub each : (row : ℕ) → row < rows → IsRowOf job layout leaves sets (asks row).reads (asks row).through row

-- the next byte of the rows from one up to an end, of which so many tasks are done: in its row the tasks before its own are done as well
abbrev pub IsRowsNext : Job → ℕ → ℕ → ℕ → Place → Option NextByte → Type 0
IsRowsNext job row end done from None = left_in job row (end - row) done from ≡ []
IsRowsNext job row end done from (Some next) =
    left_in job row (end - row) done from ≡ place_steps next.row (task_at job next.task) next.place ++ left_in job next.row (end - next.row) next.task (byte_behind next.place)
