-- A run of the actors of an update: what it keeps, and how far its actors are.
use Rattle.std.specs.Prelude.{ℕ, ◌≡◌, Bool, true, false, ℤ, List, [], ◌∷◌, length, drop, Option, None, Ok, slice_index_or}
use Rattle.actors.specs.Imports.{Term, Table, after_stores, writes_in, update_log, Setting, updated_of, State, job_of, memory_of, fresh_of, team_start, Job, Micro, Registers, idle_with, run_by, turns_from}

-- the table as the run found it, with no counts; the filter and the leaves that are set; the cuts; the memory and the actors over it
pub record Run : Type 0 where
  pub found : Table
  pub filter : Option (Term ℕ)
  pub sets : List Setting
  pub cuts : List ℕ
  pub state : State (List (List ℕ)) Micro Registers

-- a table without what is counted of it: its record, extents, mode, mapping and rows, and so its blobs
abbrev pub without_counts : Table → Table
without_counts table = record table { tally = record { counts = None; heat = None } }

-- a run before its first micro-step
abbrev pub started_run : Table → Option (Term ℕ) → List Setting → List ℕ → Run
started_run table filter sets cuts = record {
  found = without_counts table;
  filter = filter;
  sets = sets;
  cuts = cuts;
  state = team_start (without_counts table) filter sets cuts;
}

abbrev pub job_in : Run → Job
job_in run = job_of run.found run.filter run.sets

-- what an actor has left
abbrev pub rest_in : Run → ℕ → List Micro
rest_in run actor = (slice_index_or run.state.actors actor (idle_with (fresh_of run.found))).rest

-- whether a list has any item
abbrev pub has_any : {A : Type 0} → List A → Bool
has_any [] = false
has_any (x ∷ xs) = true

-- a run after a schedule
abbrev pub after_turns : Run → List ℕ → Run
after_turns run schedule = record run { state = run_by (job_in run) (fresh_of run.found) schedule run.state }

-- a run after all that its actors from one of them on have left, actor by actor
abbrev pub finished_from : ℕ → Run → Run
finished_from actor run = after_turns run (turns_from actor (drop actor run.state.actors))

-- bytes are those of the blobs that the plain update of a table leaves, which meets no fault
abbrev pub IsPlainMemory : Table → Option (Term ℕ) → List Setting → List (List ℕ) → Type 0
IsPlainMemory table filter sets memory =
    (rows : List (List ℤ)) × (updated_of table filter sets (length table.rows) ≡ Ok rows) × (memory ≡ memory_of (record table { rows = rows }))

-- so is the memory of a run
abbrev pub IsPlain : Run → Type 0
IsPlain run = IsPlainMemory run.found run.filter run.sets run.state.memory

-- a table has the rows of the plain update, and its writes are counted
abbrev pub IsStoredBack : Table → Option (Term ℕ) → List Setting → Table → Type 0
IsStoredBack table filter sets after = (rows : List (List ℤ)) × (updated_of table filter sets (length table.rows) ≡ Ok rows)
    × (after ≡ after_stores table rows (writes_in (update_log table filter sets (length table.rows))))

-- no actor has a micro-step left
abbrev pub IsDone : Run → Type 0
IsDone run = (actor : ℕ) → rest_in run actor ≡ []
