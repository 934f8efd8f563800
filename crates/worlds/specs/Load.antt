-- `load V : P [..] as .. from "F"` makes a table of what it keeps of the values of a dataset.
use Rattle.std.specs.Prelude.{◌^◌, if◌then◌else◌}
use Rattle.worlds.specs.Imports.{ℕ, Bool, List, length, Option, Some, None, nat_lt, Result, Ok, ExtentWord, File, file_named, New, csv_records, records_behind, dataset_of, Write, all_accesses, Table, leaf_count_of, after_stores}
use Rattle.worlds.specs.Worlds.{World, Entry}
use Rattle.worlds.specs.Outcomes.{Tested, CannotRead, ◌>>=◌, Left, quiet, refused_if, ok_or, Outcome, Goes, sure}
use Rattle.worlds.specs.Wordings.{Wording, in_words}
use Rattle.worlds.specs.Tables.{resolved, made}
use Rattle.worlds.specs.View.{with_view, Named, named}
use Rattle.worlds.specs.declared.fault.CommandFault.TheVariants.{TooBig}

-- the bytes of a file that may be missing
abbrev pub there : List ℕ → Option (List ℕ) → Outcome (List ℕ)
there name None = CannotRead name
there name (Some bytes) = Goes bytes

-- the bytes of a file; `unread`: reading fails in this command
abbrev pub read : List File → Bool → List ℕ → Outcome (List ℕ)
read files unread name = there name (if unread then None else file_named files name)

-- a table with what it keeps of the values of a dataset in place of its own, each written once
abbrev pub filled_by : {E : Type 0} → Wording E → Table → List (List (List ℕ)) → Result Table E
filled_by wording table records = do
  rows ← ok_or (wording.of_row table.fields) (dataset_of table records)
  Ok (after_stores table rows (all_accesses Write (leaf_count_of table) (length table.rows)))

-- in the words of a script
abbrev pub filled : Table → List (List (List ℕ)) → Tested Table
filled table records = filled_by in_words table records

-- the table of a dataset of these bytes, beside these views
abbrev pub loaded_by : {E : Type 0} → Wording E → List (Entry Table) → Named → List ExtentWord → List ℕ → Result Table E
loaded_by wording views whole words bytes = do
  short ← wording.tested (refused_if (nat_lt (2 ^ 28) (length bytes)) TooBig)
  extents ← wording.tested (resolved words (Some (length (records_behind (csv_records bytes)))))
  zeros ← wording.tested (made views whole.mode whole.fields extents whole.mapping)
  filled_by wording zeros (csv_records bytes)

-- in the words of a script
unfoldable pub loaded : List (Entry Table) → Named → List ExtentWord → List ℕ → Tested Table
loaded views whole words bytes = loaded_by in_words views whole words bytes

-- the table of a dataset in a file
unfoldable pub loaded_table : World → New → List ℕ → List File → Bool → Outcome Table
loaded_table world new file files unread = do
  whole ← sure (named world new)
  bytes ← read files unread file
  sure (loaded world.views whole new.words bytes)

unfoldable pub load : World → New → List ℕ → List File → Bool → Outcome Left
load world new file files unread = do
  table ← loaded_table world new file files unread
  sure (quiet (with_view world new.name table))
