-- The actors of an update of a view's table.
use Rattle.std.specs.Prelude.{ℕ, ◌+◌, List, length, map, replicate, Option}
use Rattle.actor_steps.specs.Imports.{Term, image, bytes_of, Table, owners_of, leaf_types_of, table_holds, kept_of, blob_lengths, Setting}
use Rattle.actor_steps.specs.Confluence.{State}
use Rattle.actor_steps.specs.Micro.{Job, Micro, Registers}
use Rattle.actor_steps.specs.Schedules.{schedule_of, started, run_by}

-- an update of a table
abbrev pub job_of : Table → Option (Term ℕ) → List Setting → Job
job_of table filter sets = record {
  layout = owners_of table;
  kinds = leaf_types_of table;
  holds = table_holds table;
  kept = kept_of table;
  extents = table.extents;
  rows = table.rows;
  filter = filter;
  sets = sets;
}

-- the bytes of the blobs of a table: those of its image
abbrev pub memory_of : Table → List (List ℕ)
memory_of table = map bytes_of (image (owners_of table) table.rows)

-- registers that nothing was loaded to
abbrev pub fresh_of : Table → Registers
fresh_of table = record { loaded = map (λ bytes. replicate bytes 0) (blob_lengths (owners_of table)); byte = 0 }

-- the actors before their first micro-step; there is one more than there are cuts
abbrev pub team_start : Table → Option (Term ℕ) → List Setting → List ℕ → State (List (List ℕ)) Micro Registers
team_start table filter sets cuts = started (job_of table filter sets) cuts (length table.rows) (memory_of table) (fresh_of table)

-- the bytes of the blobs after so many turns of the schedule of a seed
abbrev pub written_by : Table → Option (Term ℕ) → List Setting → List ℕ → ℕ → ℕ → List (List ℕ)
written_by table filter sets cuts seed turns =
    (run_by (job_of table filter sets) (fresh_of table) (schedule_of (length cuts + 1) seed turns) (team_start table filter sets cuts)).memory
