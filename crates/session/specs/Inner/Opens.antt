-- The parts of an open, behind the reading of its file.
use Rattle.std.specs.Prelude.{ℕ, ◌+◌, ◌*◌, ◌^◌, List, nat_lt, Ok}
use Rattle.blob_file.specs.Opened.{opened, table_of_saved}
use Rattle.session.specs.Imports.{FileFault, Table, bad_file, Tested, ◌>>=◌, refused_if, ok_or, live_bits, blob_bits, Entry, TooBig, StepFault}
use Rattle.blob_file.specs.declared.fault.FileFault.TheVariants as cause
use Rattle.command_checks.specs.declared.fault.StepFault.TheVariants as step

-- a table, where its blobs have room beside those of these views
abbrev pub with_room : List (Entry Table) → Table → Tested Table
with_room views table = do
  all ← refused_if (nat_lt (8 * 2 ^ 30) (live_bits views + blob_bits table)) TooBig
  Ok table

-- the table of a file of bytes that are not too many, beside these views
abbrev pub placed_table : List (Entry Table) → List ℕ → Tested Table
placed_table views bytes = do
  saved ← ok_or bad_file (opened bytes)
  with_room views (table_of_saved saved)

-- what a fault of a file is told as
abbrev pub file_fault : FileFault → StepFault
file_fault cause.NoMemory = step.NoMemory
file_fault fault = step.Command (bad_file fault)
