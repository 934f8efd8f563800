-- Commands that work on one view, by what each may see of its table and change in it.
use Rattle.worlds.specs.Imports.{ℕ, ℤ, List, [], Option, Some, None, Ok, Fields, StoreMode, Access, Table, after_stores}
use Rattle.worlds.specs.Worlds.{World, replaced}
use Rattle.worlds.specs.Outcomes.{Tested, ◌>>=◌, LeftOf, Left, quiet, shows, known}

-- what a table holds, however it lies in memory and whatever was counted of it
pub record Content : Type 0 where
  pub fields : Fields
  pub extents : List ℕ
  pub mode : StoreMode
  pub rows : List (List ℤ)

abbrev pub content_of : Table → Content
content_of table = record { fields = table.fields; extents = table.extents; mode = table.mode; rows = table.rows }

-- what a command leaves of the rows of a table, its accesses in order, and what it writes
pub record Done : Type 0 where
  pub rows : List (List ℤ)
  pub log : List Access
  pub text : List ℕ

-- the accesses of a command that leaves the rows, and what it writes
pub record Told : Type 0 where
  pub log : List Access
  pub text : List ℕ

-- a command that stores and writes nothing, and one that makes no access
abbrev pub stores : List (List ℤ) → List Access → Done
stores rows log = record { rows = rows; log = log; text = [] }

abbrev pub tells : List ℕ → Told
tells text = record { log = []; text = text }

-- what a command does to a table
pub data Work : Type 0 where
  -- it reads, and what it tells depends on nothing but the content
  Reads : (Content → Tested Told) → Work
  -- it shows of the table what the content does not say, as how it lies in memory or what was counted
  Shows : (Table → Tested Told) → Work
  -- it may store
  Changes : (Table → Tested Done) → Work

-- the rows stay where something is told
abbrev pub left_as : Table → Told → Done
left_as table told = record { rows = table.rows; log = told.log; text = told.text }

abbrev pub telling : (Table → Tested Told) → Table → Tested Done
telling command table = do
  told ← command table
  Ok (left_as table told)

abbrev pub reading : (Content → Tested Told) → Table → Tested Done
reading command table = telling (λ table. command (content_of table)) table

abbrev pub does : Work → Table → Tested Done
does (Reads command) table = reading command table
does (Shows command) table = telling command table
does (Changes command) table = command table

-- the table to which this was done
abbrev pub done_to : Table → Tested Done → Tested (LeftOf Table)
done_to table outcome = do
  done ← outcome
  Ok (record { held = after_stores table done.rows done.log; text = done.text })

-- the world with this table under the name of another
abbrev pub with_table : World → List ℕ → Table → World
with_table world name table = record world { views = replaced name table world.views }

-- a command on the table of a name: the table to which it is done takes its place
unfoldable pub on_view : World → List ℕ → (Table → Tested Done) → Tested Left
on_view world name command = do
  table ← known name world.views
  new ← done_to table (command table)
  shows (with_table world name new.held) new.text

-- a command on a view, and the name of the view
pub record OnView : Type 0 where
  pub view : List ℕ
  pub work : Work

-- a line without such a command changes nothing
abbrev pub worked : World → Option OnView → Tested Left
worked world None = quiet world
worked world (Some line) = on_view world line.view (does line.work)
