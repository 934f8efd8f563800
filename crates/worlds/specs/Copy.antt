-- `copy V to W` makes the table of W what W keeps of that of V, and `relayout V as ..` lays a table out anew.
use Rattle.std.specs.Prelude.{◌&&◌}
use Rattle.worlds.specs.Imports.{ℕ, ℤ, Bool, true, false, not, nat_eq, List, length, Result, Ok, pointwise, Tree, Fields, Single, Record, Array, End, Field, kind_number, MapTerm, refused_at, Read, Write, all_accesses, Table, leaf_count_of, after_log, after_stores, answer_of, kept_of, kept_rows}
use Rattle.worlds.specs.Worlds.{World, Entry}
use Rattle.worlds.specs.Outcomes.{Tested, ◌>>=◌, Left, quiet, known, refused_if, refused_by}
use Rattle.worlds.specs.Names.{nameless}
use Rattle.worlds.specs.Wordings.{Wording, in_words}
use Rattle.worlds.specs.Tables.{made}
use Rattle.worlds.specs.OnView.{with_table}
use Rattle.worlds.specs.declared.fault.CommandFault.TheVariants.{Mismatch}

-- whether two records are one tree, names included
abbrev mutual
  pub same_tree : Tree → Tree → Bool
  same_tree (Single kind) (Single other) = nat_eq (kind_number kind) (kind_number other)
  same_tree (Record fields) (Record others) = same_fields fields others
  same_tree (Array len element) (Array other_len other) = nat_eq len other_len && same_tree element other
  same_tree _ _ = false

  pub same_fields : Fields → Fields → Bool
  same_fields End End = true
  same_fields (Field name tree rest) (Field other_name other more) =
      pointwise nat_eq name other_name && (same_tree tree other && same_fields rest more)
  same_fields _ _ = false

-- one record over the same extents
abbrev pub are_alike : Table → Table → Bool
are_alike source target = same_fields source.fields target.fields && pointwise nat_eq source.extents target.extents

-- a table with what it keeps of the rows of another, where it takes them, each value written once
unfoldable pub with_rows : {E : Type 0} → Wording E → Table → List (List ℤ) → Result Table E
with_rows wording table rows = do
  held ← refused_by (wording.of_spot table.fields) (refused_at (answer_of table) 0 rows)
  Ok (after_stores table (kept_rows (kept_of table) rows) (all_accesses Write (leaf_count_of table) (length rows)))

-- the target with what it keeps of the rows of the source
abbrev pub copied_by : {E : Type 0} → Wording E → Table → Table → Result Table E
copied_by wording source target = do
  alike ← wording.tested (refused_if (not (are_alike source target)) Mismatch)
  with_rows wording target source.rows

-- in the words of a script
unfoldable pub copied : Table → Table → Tested Table
copied source target = copied_by in_words source target

-- the source, each of its values read once
abbrev pub all_read : Table → Table
all_read source = after_log source (all_accesses Read (leaf_count_of source) (length source.rows))

-- of a table onto itself, each value is read and is written
unfoldable pub copy : World → List ℕ → List ℕ → Tested Left
copy world name target_name = do
  source ← known name world.views
  let read = with_table world name (all_read source)
  target ← known target_name read.views
  new ← copied source target
  quiet (with_table read target_name new)

-- what a table of the same mode keeps of the rows under a new mapping, beside all of these, the old one among them
abbrev pub laid_anew_by : {E : Type 0} → Wording E → List (Entry Table) → Table → MapTerm → Result Table E
laid_anew_by wording views table mapping = do
  zeros ← wording.tested (made views table.mode table.fields table.extents mapping)
  with_rows wording zeros table.rows

-- in the words of a script
unfoldable pub laid_anew : List (Entry Table) → Table → MapTerm → Tested Table
laid_anew views table mapping = laid_anew_by in_words views table mapping

unfoldable pub relayout : World → List ℕ → MapTerm → Tested Left
relayout world name term = do
  table ← known name world.views
  whole ← nameless world.mappings term
  new ← laid_anew world.views table whole
  quiet (with_table world name new)
