-- No schedule of the actors of an update matters.
use Rattle.std.specs.Prelude.{ℕ, ◌≡◌, ℤ, List, [], length, map, slice_index_or, Option, None, Ok}
use Rattle.actor_steps.specs.Imports.{Term, IsLaidOut, AreLaid, table_in, declared_table, Table, IsTable, owners_of, leaf_types_of, table_holds, Setting, updated_of}
use Rattle.actor_steps.specs.Confluence.{State}
use Rattle.actor_steps.specs.Micro.{Job, Micro, Registers}
use Rattle.actor_steps.specs.Cuts.{AreCuts, actor_of}
use Rattle.actor_steps.specs.Shared.{shared_byte}
use Rattle.actor_steps.specs.Schedules.{idle_with, run_by, finished}
use Rattle.actor_steps.specs.Jobs.{job_of, memory_of, fresh_of, team_start}

-- a table under a layout with its laws
pub record IsLawful (table : Table) : Type 0 where
  pub is_table : IsTable table
  pub laid : IsLaidOut (owners_of table) (length table.rows) (map (λ hold. hold.width) (table_holds table))
  pub paired : length (table_holds table) ≡ length (leaf_types_of table)

-- cuts part the rows of such a table, no byte is shared, and the plain update meets no fault and leaves these rows
pub record IsParted (table : Table) (filter : Option (Term ℕ)) (sets : List Setting) (cuts : List ℕ) (rows : List (List ℤ)) : Type 0 where
  pub lawful : IsLawful table
  pub parts : AreCuts 0 cuts (length table.rows)
  pub apart : shared_byte (owners_of table) (actor_of cuts) ≡ None
  pub plain : updated_of table filter sets (length table.rows) ≡ Ok rows

-- the actors of an update after a schedule
abbrev pub state_by : Table → Option (Term ℕ) → List Setting → List ℕ → List ℕ → State (List (List ℕ)) Micro Registers
state_by table filter sets cuts schedule = run_by (job_of table filter sets) (fresh_of table) schedule (team_start table filter sets cuts)

-- the bytes after the micro-steps that it left, actor by actor
abbrev pub memory_by : Table → Option (Term ℕ) → List Setting → List ℕ → List ℕ → List (List ℕ)
memory_by table filter sets cuts schedule = (finished (job_of table filter sets) (fresh_of table) (state_by table filter sets cuts schedule)).memory

-- they are those of the table with the rows of the plain update, whatever the schedule was
abbrev pub SchedulesAgree : Type 0
SchedulesAgree = (table : Table) (filter : Option (Term ℕ)) (sets : List Setting) (cuts : List ℕ) (rows : List (List ℤ))
    → IsParted table filter sets cuts rows → (schedule : List ℕ) → memory_by table filter sets cuts schedule ≡ memory_of (record table { rows = rows })

-- then no actor has a micro-step left
abbrev pub NothingIsLeft : Type 0
NothingIsLeft = (job : Job) (fresh : Registers) (state : State (List (List ℕ)) Micro Registers) (a : ℕ)
    → (slice_index_or (finished job fresh state).actors a (idle_with fresh)).rest ≡ []

-- with these rows the table is lawful
abbrev pub UpdatesAreLawful : Type 0
UpdatesAreLawful = (table : Table) (filter : Option (Term ℕ)) (sets : List Setting) (rows : List (List ℤ))
    → IsLawful table → updated_of table filter sets (length table.rows) ≡ Ok rows → IsLawful (record table { rows = rows })

-- the rows of a lawful table are what its bytes are read as
abbrev pub BytesAreRead : Type 0
BytesAreRead = (table : Table) → IsLawful table
    → declared_table (leaf_types_of table) (table_in (owners_of table) (length table.rows) (table_holds table) (memory_of table)) ≡ table.rows

-- after each schedule the blobs, and what each actor loaded of them, have the lengths of the layout, and 0 in its padding
abbrev pub SchedulesKeepPadding : Type 0
SchedulesKeepPadding = (table : Table) (filter : Option (Term ℕ)) (sets : List Setting) (cuts : List ℕ) → IsLawful table → (schedule : List ℕ)
    → AreLaid (owners_of table) (state_by table filter sets cuts schedule).memory
    × ((a : ℕ) → AreLaid (owners_of table) (slice_index_or (state_by table filter sets cuts schedule).actors a (idle_with (fresh_of table))).registers.loaded)
