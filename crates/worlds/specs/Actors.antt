-- `update V where .. set .. = .., .. actors [..] schedule S turns N` shares the rows of an update out among actors.
use Rattle.std.specs.Prelude.{◌^◌, ◌&&◌}
use Rattle.worlds.specs.Imports.{ℕ, Bool, not, nat_le, nat_lt, List, [], length, flat_map, Option, Ok, Value, Assignment, bytes_text, Table, owners_of, reads_first, updated_of, update_log, Place, are_cuts, actor_of, shared_byte, written_by}
use Rattle.worlds.specs.OnView.{Done}
use Rattle.worlds.specs.Outcomes.{Tested, ◌>>=◌, refused_if, refused_by, ok_or}
use Rattle.worlds.specs.Names.{bound_filter, bound_sets, each_once, leaves_of}
use Rattle.worlds.specs.Show.{small}
use Rattle.worlds.specs.Update.{update_fault}
use Rattle.worlds.specs.declared.fault.BadActors.TheVariants.{Cuts, Turns}
use Rattle.worlds.specs.declared.fault.CommandFault.{CommandFault}
use Rattle.worlds.specs.declared.fault.CommandFault.TheVariants.{BadActors, SharedByte}

-- at most 63 cuts, which do not fall, and none is over the number of rows
abbrev pub fit_cuts : List ℕ → ℕ → Bool
fit_cuts cuts rows = nat_le (length cuts) 63 && are_cuts 0 cuts rows

-- the fault of a byte that holds bits of rows of two actors
abbrev pub shared : Place → CommandFault
shared place = SharedByte place.blob place.byte

-- the bytes of all blobs
abbrev pub memory_text : List (List ℕ) → List ℕ
memory_text memory = flat_map bytes_text memory

-- the rows of the plain update, once no actor has a step left; its text is the memory in the midst of it, after so many turns
unfoldable pub updated_by_actors : Table → Option Value → List Assignment → List ℕ → ℕ → ℕ → Tested Done
updated_by_actors table filter sets cuts seed turns = do
  test ← bound_filter table.fields (length table.extents) filter
  settings ← bound_sets table.fields (length table.extents) sets
  once ← each_once table.fields [] (leaves_of settings)
  fit ← refused_if (not (fit_cuts cuts (length table.rows))) (BadActors Cuts)
  few ← refused_if (nat_lt (2 ^ 20) turns) (BadActors Turns)
  shown ← small table
  apart ← refused_by shared (shared_byte (owners_of table) (actor_of cuts))
  rows ← ok_or (update_fault table.fields) (updated_of table test settings (length table.rows))
  Ok (record {
    rows = rows;
    log = reads_first (update_log table test settings (length table.rows));
    text = memory_text (written_by table test settings cuts seed turns);
  })
