-- What the type of a run keeps of its fields.
use Rattle.std.specs.Prelude.{ℕ, ◌≡◌, ◌+◌, ◌<◌, ◌≤◌, All, ℤ, List, Option, None, length, map, slice_index_or}
use Rattle.actors.specs.Imports.{Fields, Term, Shape, AreSized, StoreMode, table_under, Table, owners_of, Assign, setting_of, IsSetOf, IsParted, job_of, Asks}
use Rattle.actors.specs.declared.actor.Actor.{Actor as Standing}
use Rattle.actors.specs.Rows.{ArePlans}
use Rattle.actors.specs.ActorRuns.{Run, started_run, after_turns}
use Rattle.actors.specs.Standing.{IsStanding, state_shown}

-- the table that fields show, with no counts
abbrev pub table_at : Fields → List ℕ → Shape → StoreMode → List (List ℕ) → Table
table_at fields extents mapping mode found = record {
  fields = fields;
  extents = extents;
  mapping = mapping;
  mode = mode;
  rows = table_under mapping extents fields found;
  tally = record { counts = None; heat = None };
}

-- the run of a table
abbrev pub actor_run_of : Table → Option (Term ℕ) → List Assign → List ℕ → List (List ℕ) → List Standing → Run
actor_run_of table filter sets cuts memory actors = record {
  found = table;
  filter = filter;
  sets = map setting_of sets;
  cuts = cuts;
  state = state_shown (job_of table filter (map setting_of sets)) memory actors;
}

-- some schedule leads to a run from its first micro-step
abbrev pub IsReached : Run → Type 0
IsReached run = (schedule : List ℕ) × (run ≡ after_turns (started_run run.found run.filter run.sets run.cuts) schedule)

-- each actor stands somewhere
abbrev pub AreStanding : Table → ℕ → List Standing → Type 0
AreStanding table sets actors = (a : ℕ) (other : Standing) → a < length actors → IsStanding table sets (slice_index_or actors a other)

-- the facts of a run: cuts part the rows of a lawful table, no byte is shared, and the plain update meets no fault; what rows ask for and the
-- leaves that are set are at hand; memory and the scratch bytes have the lengths of the blobs; each actor stands somewhere; some schedule
-- leads there
pub record IsActorRun (table : Table) (filter : Option (Term ℕ)) (sets : List Assign) (cuts : List ℕ) (memory scratch : List (List ℕ)) (plans : List Asks) (targets : List ℕ)
    (actors : List Standing) : Type 0 where
  pub parted : (rows : List (List ℤ)) × IsParted table filter (map setting_of sets) cuts rows
  pub sets_in : All (IsSetOf table) sets
  pub few : length targets ≤ 64
  pub targets_are : targets ≡ map (λ set. set.leaf) sets
  pub plans_are : ArePlans (job_of table filter (map setting_of sets)) (length table.rows) plans
  pub memory_sized : AreSized (owners_of table) memory
  pub scratch_sized : AreSized (owners_of table) scratch
  pub count : length actors ≡ length cuts + 1
  pub standing : AreStanding table (length targets) actors
  pub reached : IsReached (actor_run_of table filter sets cuts memory actors)
