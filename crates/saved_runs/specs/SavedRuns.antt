-- What a view saves is opened as the same table, and what is opened saves as the same bytes.
use Rattle.std.specs.Prelude.{ℕ, ◌≡◌, ◌+◌, ◌*◌, ◌^◌, ◌<◌, ◌≤◌, Bool, false, List, length, Some, None, Ok}
use Rattle.layout_io.specs.Prelude.{File, file_named}
use Rattle.line_grammar.specs.Prelude.{Save, Open}
use Rattle.views.specs.Prelude.{Write, all_accesses, no_tally, tallied, Table, owners_of, leaf_count_of}
use Rattle.blob_file.specs.Files.{AreRows}
use Rattle.blob_file.specs.Headers.{HasLines, CanLie}
use Rattle.blob_file.specs.Opened.{Saved, opened, table_of_saved}
use Rattle.blob_file.specs.Saving.{header_of}
use Rattle.worlds.specs.Prelude.{World, found, Goes, Left, sure, quiet, shows, Told, live_bits, blob_bits, with_view, save, step}

-- a file has the bytes as which the table of a name is saved, and the save leaves the world as it is
pub record SavesBack (files : List File) (file name : List ℕ) (world : World) : Type 0 where
  pub bytes : List ℕ
  pub there : file_named files file ≡ Some bytes
  pub table : Table
  pub is : found name world.views ≡ Some table
  pub saves : (others : List File) (fails : Bool) → step world (Save name) others fails ≡ sure (shows world bytes)

-- what is opened of a file saves as its bytes
abbrev pub OpenedSaves : Type 0
OpenedSaves =
    (world : World) (name file : List ℕ) (files : List File) (fails : Bool) (left : Left) → step world (Open name file) files fails ≡ Goes left
    → SavesBack files file name left.held

-- a file can say the table: lines of the language are those of its header, a view can be made with it, and it may hold the rows
pub record IsSavable (table : Table) : Type 0 where
  pub lines : HasLines (header_of table)
  pub lies : CanLie (header_of table)
  pub rows : AreRows (header_of table) table.rows

-- the table whose only accesses are one write of each value
abbrev pub once_written : Table → Table
once_written table = record table {
  tally = tallied (owners_of table) (no_tally table.mapping (owners_of table) (leaf_count_of table)) (all_accesses Write (leaf_count_of table) (length table.rows));
}

-- a world can have this table as one more, of this name
pub record HasRoom (world : World) (name : List ℕ) (table : Table) : Type 0 where
  pub unused : found name world.views ≡ None
  pub few : length world.views < 64
  pub small : live_bits world.views + blob_bits table ≤ 8 * 2 ^ 30

-- bytes are opened as a table, wherever there is room for it
pub record OpensAs (bytes : List ℕ) (table : Table) : Type 0 where
  pub saved : Saved
  pub opens : opened bytes ≡ Ok saved
  pub is : table_of_saved saved ≡ table
  pub goes : (world : World) (name file : List ℕ) (files : List File) → HasRoom world name table → file_named files file ≡ Some bytes
      → step world (Open name file) files false ≡ sure (quiet (with_view world name table))

-- what a savable table saves is opened as the table, each value written once
abbrev pub SavedOpens : Type 0
SavedOpens = (table : Table) (told : Told) → IsSavable table → save table ≡ Ok told → OpensAs told.text (once_written table)
