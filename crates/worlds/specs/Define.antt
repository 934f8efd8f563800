-- `record P { .. }` names a record.
use Rattle.worlds.specs.Imports.{ℕ, List, Ok, Tree, Record, Fields, End, record_fault}
use Rattle.worlds.specs.Worlds.{World, added}
use Rattle.worlds.specs.Outcomes.{Tested, ◌>>=◌, Left, quiet, free, refused_by}
use Rattle.worlds.specs.declared.fault.CommandFault.TheVariants.{BadRecord}

-- the fields of a record
abbrev pub fields_in : Tree → Fields
fields_in (Record fields) = fields
fields_in _ = End

-- the fields of a record that is fit for a table
abbrev pub fit : Tree → Tested Fields
fit tree = do
  good ← refused_by BadRecord (record_fault tree)
  Ok (fields_in tree)

unfoldable pub define : World → List ℕ → Tree → Tested Left
define world name tree = do
  new ← free name world.records
  fields ← fit tree
  quiet (record world { records = added name fields world.records })
