-- `update V where .. set .. = .., ..` stores values in each row where the filter is not 0.
use Rattle.worlds.specs.Imports.{ℕ, List, [], length, Option, Ok, Value, Assignment, Fields, updated_rows, rows_log, UpdateFault, UpdateKind, Table, answer_of, kept_of}
use Rattle.row_updates.specs.declared.fault.UpdateKind.TheVariants as kind
use Rattle.worlds.specs.OnView.{Done, stores}
use Rattle.worlds.specs.Outcomes.{Tested, ◌>>=◌, ok_or}
use Rattle.worlds.specs.Names.{text_of_leaf, bound_filter, bound_sets, each_once, leaves_of}
use Rattle.worlds.specs.declared.fault.CommandFault.{CommandFault}
use Rattle.worlds.specs.declared.fault.CommandFault.TheVariants.{Range, Narrow, Overflow, DivideByZero}

-- the fault of a row, with the path text of its leaf
abbrev pub kind_fault : Fields → ℕ → UpdateKind → CommandFault
kind_fault fields row kind.Overflow = Overflow row
kind_fault fields row kind.DivideByZero = DivideByZero row
kind_fault fields row (kind.Range leaf) = Range row (text_of_leaf fields leaf)
kind_fault fields row (kind.Narrow leaf) = Narrow row (text_of_leaf fields leaf)

abbrev pub update_fault : Fields → UpdateFault → CommandFault
update_fault fields fault = kind_fault fields fault.row fault.kind

-- new values go into the rows that pass a filter
unfoldable pub updated : Table → Option Value → List Assignment → Tested Done
updated table filter sets = do
  test ← bound_filter table.fields (length table.extents) filter
  settings ← bound_sets table.fields (length table.extents) sets
  once ← each_once table.fields [] (leaves_of settings)
  rows ← ok_or (update_fault table.fields) (updated_rows (answer_of table) (kept_of table) test settings table.extents table.rows (length table.rows))
  Ok (stores rows (rows_log (answer_of table) test settings table.extents table.rows (length table.rows)))
