-- `save V` writes a table as the bytes of one file, and `open V from "F"` makes a table of such bytes.
use Rattle.std.specs.Prelude.{◌+◌, ◌*◌, ◌^◌, ◌||◌}
use Rattle.worlds.specs.Imports.{ℕ, Bool, List, length, nat_lt, Ok, File, Table, header_of, blobs_of, opened, table_of_saved, FileFault}
use Rattle.blob_file.specs.Files.{record_text, view_text, file_of}
use Rattle.blob_file.specs.declared.fault.FileFault.TheVariants as cause
use Rattle.worlds.specs.Worlds.{World, Entry}
use Rattle.worlds.specs.Outcomes.{Tested, ◌>>=◌, Left, quiet, refused_if, ok_or, free, Outcome, sure}
use Rattle.worlds.specs.OnView.{tells, Told}
use Rattle.worlds.specs.Tables.{room, live_bits, blob_bits}
use Rattle.worlds.specs.View.{with_view}
use Rattle.worlds.specs.Load.{read}
use Rattle.worlds.specs.declared.fault.BadFile.TheVariants as bad
use Rattle.worlds.specs.declared.fault.CommandFault.{CommandFault}
use Rattle.worlds.specs.declared.fault.CommandFault.TheVariants as fault

-- a text of the header of a table is longer than a line may be
abbrev pub is_long : Table → Bool
is_long table = nat_lt 4096 (length (record_text (header_of table))) || nat_lt 4096 (length (view_text (header_of table)))

-- the file of a table; no access is made
unfoldable pub save : Table → Tested Told
save table = do
  short ← refused_if (is_long table) fault.TooBig
  Ok (tells (file_of (header_of table) (blobs_of table)))

-- why bytes are no file; want of memory is no fault of a file
abbrev pub bad_file : FileFault → CommandFault
bad_file cause.Magic = fault.BadFile bad.Magic
bad_file cause.Header = fault.BadFile bad.Header
bad_file cause.Layout = fault.BadFile bad.Layout
bad_file cause.Length = fault.BadFile bad.Length
bad_file cause.Contents = fault.BadFile bad.Contents
bad_file cause.NoMemory = fault.TooBig

-- the table of which these bytes are the file, beside these views: each of its values was written once
unfoldable pub opened_beside : List (Entry Table) → List ℕ → Tested Table
opened_beside views bytes = do
  short ← refused_if (nat_lt (2 ^ 28 + 8206) (length bytes)) fault.TooBig
  saved ← ok_or bad_file (opened bytes)
  all ← refused_if (nat_lt (8 * 2 ^ 30) (live_bits views + blob_bits (table_of_saved saved))) fault.TooBig
  Ok (table_of_saved saved)

-- the table of a file
unfoldable pub opened_table : World → List ℕ → List ℕ → List File → Bool → Outcome Table
opened_table world name file files unread = do
  unused ← sure (free name world.views)
  space ← sure (room world.views)
  bytes ← read files unread file
  sure (opened_beside world.views bytes)

unfoldable pub open_view : World → List ℕ → List ℕ → List File → Bool → Outcome Left
open_view world name file files unread = do
  table ← opened_table world name file files unread
  sure (quiet (with_view world name table))
