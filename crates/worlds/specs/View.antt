-- `view V : P [..] as ..` makes a table of zeros.
use Rattle.worlds.specs.Imports.{ℕ, List, None, Result, Ok, Fields, MapTerm, New, StoreMode, Table}
use Rattle.worlds.specs.Worlds.{World, added}
use Rattle.worlds.specs.Outcomes.{Tested, ◌>>=◌, Left, quiet, free, known}
use Rattle.worlds.specs.Names.{nameless}
use Rattle.worlds.specs.Wordings.{Wording, in_words}
use Rattle.worlds.specs.Tables.{room, shaped, resolved, mode_by, made}

-- the world with one more table
abbrev pub with_view : World → List ℕ → Table → World
with_view world name table = record world { views = added name table world.views }

-- what the words of a new view stand for: the fields of its record, how it stores, and its mapping with no name in it
pub record Named : Type 0 where
  pub fields : Fields
  pub mode : StoreMode
  pub mapping : MapTerm

-- the tests of a new view that need no file
abbrev pub named : World → New → Tested Named
named world new = do
  unused ← free new.name world.views
  fields ← known new.schema world.records
  whole ← nameless world.mappings new.term
  space ← room world.views
  ranked ← shaped new.words
  Ok (record { fields = fields; mode = mode_by new.wrap; mapping = whole })

-- the table that a view begins as
abbrev pub new_table_by : {E : Type 0} → Wording E → World → New → Result Table E
new_table_by wording world new = do
  whole ← wording.tested (named world new)
  extents ← wording.tested (resolved new.words None)
  wording.tested (made world.views whole.mode whole.fields extents whole.mapping)

-- in the words of a script
unfoldable pub new_table : World → New → Tested Table
new_table world new = new_table_by in_words world new

unfoldable pub view : World → New → Tested Left
view world new = do
  table ← new_table world new
  quiet (with_view world new.name table)
