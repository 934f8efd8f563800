-- How an actor goes from one micro-step to the next.
use Rattle.std.proofs.Common.{◌≡◌, ℕ, suc, ◌+◌, Bool, true, false, List, [], ◌∷◌, ◌++◌, map, filter, refl, sym, ap, ◌∙◌, append_assoc}
use Rattle.std.specs.Prelude.{if◌then◌else◌}
use Rattle.actor_tasks.specs.Imports.{flat_map, range_with_len, Setting, Place, places_of, Job, Micro, Fetch, lets_through, leaves_read, is_in, changes, stores_of, row_steps, steps_of, flat_map-append, arith}
use Rattle.actor_tasks.specs.Places.{origin, places_from, byte_behind}
use Rattle.actor_tasks.specs.Tasks.{Task, Reads, Sets, all_tasks, is_asked, task_leaf, place_steps, task_steps, tasks_steps, left_of}
use Rattle.actor_tasks.specs.PlacesLaws.{places_from-origin}

-- the tasks of reads make the loads of the bytes of the leaves that are read
fetch_all : (places : List Place) (row leaf : ℕ) → flat_map (place_steps row (Reads leaf)) places ≡ map Fetch places
fetch_all [] row leaf = refl
fetch_all (place ∷ places) row leaf = ap (λ (w : List Micro). Fetch place ∷ w) (fetch_all places row leaf)

read_steps : (job : Job) (row leaf : ℕ) → task_steps job row origin (Reads leaf) ≡ (if is_in (leaves_read job row) leaf then map Fetch (places_of job.layout row leaf) else [])
read_steps job row leaf =
    ap (λ (w : List Micro). if is_in (leaves_read job row) leaf then w else [])
    (ap (flat_map (place_steps row (Reads leaf))) (places_from-origin job.layout row leaf) ∙ fetch_all (places_of job.layout row leaf) row leaf)

reads_all : (job : Job) (row : ℕ) (leaves : List ℕ)
    → flat_map (task_steps job row origin) (map Reads leaves) ≡ flat_map (λ leaf. map Fetch (places_of job.layout row leaf)) (filter (is_in (leaves_read job row)) leaves)
reads_all job row [] = refl
reads_all job row (leaf ∷ leaves) =
    ap (λ (w : List Micro). w ++ flat_map (task_steps job row origin) (map Reads leaves)) (read_steps job row leaf)
    ∙ ap (λ (w : List Micro). (if is_in (leaves_read job row) leaf then map Fetch (places_of job.layout row leaf) else []) ++ w) (reads_all job row leaves)
    ∙ by_test (is_in (leaves_read job row) leaf) where
      by_test : (t : Bool) → (if t then map Fetch (places_of job.layout row leaf) else []) ++ flat_map (λ leaf. map Fetch (places_of job.layout row leaf)) (filter (is_in (leaves_read job row)) leaves)
          ≡ flat_map (λ leaf. map Fetch (places_of job.layout row leaf)) (if t then leaf ∷ filter (is_in (leaves_read job row)) leaves else filter (is_in (leaves_read job row)) leaves)
      by_test true = refl
      by_test false = refl

-- the tasks of sets make the changes of the leaves that are set
sets_all : (job : Job) (row : ℕ) (sets : List Setting) → flat_map (task_steps job row origin) (map Sets sets) ≡ (if lets_through job row then flat_map (stores_of job row) sets else [])
sets_all job row [] = by_test (lets_through job row) where
  by_test : (t : Bool) → [] ≡ (if t then flat_map (stores_of job row) [] else [])
  by_test true = refl
  by_test false = refl
sets_all job row (set ∷ sets) =
    ap (λ (w : List Micro). w ++ flat_map (task_steps job row origin) (map Sets sets))
    (ap (λ (w : List Place). if lets_through job row then flat_map (changes row set) w else []) (places_from-origin job.layout row set.leaf))
    ∙ ap (λ (w : List Micro). (if lets_through job row then stores_of job row set else []) ++ w) (sets_all job row sets) ∙ by_test (lets_through job row) where
      by_test : (t : Bool) → (if t then stores_of job row set else []) ++ (if t then flat_map (stores_of job row) sets else [])
          ≡ (if t then stores_of job row set ++ flat_map (stores_of job row) sets else [])
      by_test true = refl
      by_test false = refl

tasks-origin : (job : Job) (row : ℕ) (tasks : List Task) → tasks_steps job row origin tasks ≡ flat_map (task_steps job row origin) tasks
tasks-origin job row tasks = grind arith

-- a row begins with its first task
pub row_left : (job : Job) (row : ℕ) → tasks_steps job row origin (all_tasks job) ≡ row_steps job row
row_left job row = grind (arith, tasks-origin, flat_map-append, range_with_len, flat_map, reads_all, sets_all)

-- all rows of an actor are left at its first
pub rows_left : (job : Job) (first more : ℕ) → left_of job (record { row = first; more = more; done = 0; from = origin }) ≡ steps_of job first (suc more)
rows_left job first more = ap (λ (w : List Micro). w ++ steps_of job (first + 1) more) (row_left job first)

-- a task that the row asks for has a next byte: its micro-steps there are the next ones
pub next_place : (job : Job) (row : ℕ) (from place : Place) (task : Task) (tasks : List Task) → is_asked job row task ≡ true
    → places_from job.layout row (task_leaf task) from ≡ place ∷ places_from job.layout row (task_leaf task) (byte_behind place)
    → tasks_steps job row from (task ∷ tasks) ≡ place_steps row task place ++ tasks_steps job row (byte_behind place) (task ∷ tasks)
next_place job row from place task tasks asked first = grind (arith, flat_map, append_assoc)

-- a task that it does not ask for, or that has no byte left, is done
pub next_task : (job : Job) (row : ℕ) (from : Place) (task : Task) (tasks : List Task) → task_steps job row from task ≡ []
    → tasks_steps job row from (task ∷ tasks) ≡ tasks_steps job row origin tasks
next_task job row from task tasks none = ap (λ (w : List Micro). w ++ flat_map (task_steps job row origin) tasks) none ∙ sym (tasks-origin job row tasks)

-- behind a row whose tasks are done comes the next one
pub next_row : (job : Job) (row more : ℕ) (from : Place) → tasks_steps job row from [] ++ steps_of job (row + 1) (suc more)
    ≡ left_of job (record { row = row + 1; more = more; done = 0; from = origin })
next_row job row more from = sym (rows_left job (row + 1) more)
