-- `reduce V sum|min|max path` and `reduce V count where ..` write one number of all rows.
use Rattle.worlds.specs.Imports.{ℕ, ℤ, pos, List, length, Ok, Value, ReduceKind, PathStep, column_reads, Access, reduced_by, Reduction, counted, count_log}
use Rattle.line_grammar.specs.declared.line.ReduceKind.TheVariants.{Sum, Min, Max}
pub use Rattle.views.specs.Prelude.{column}
use Rattle.lane_kernels.specs.declared.reduce.Reduction.TheVariants as form
use Rattle.worlds.specs.Outcomes.{Tested, ◌>>=◌, ok_or, some_or}
use Rattle.worlds.specs.Names.{leaf_of, bound}
use Rattle.worlds.specs.Update.{update_fault}
use Rattle.worlds.specs.Texts.{number_line}
use Rattle.worlds.specs.declared.fault.CommandFault.TheVariants.{Empty}
use Rattle.worlds.specs.OnView.{Content, Told}

-- what each word asks of numbers
abbrev pub form_of : ReduceKind → Reduction
form_of Sum = form.Sum
form_of Min = form.Least
form_of Max = form.Greatest

-- the sum of no numbers is 0; no numbers have a least or a greatest one
abbrev pub reduced : ReduceKind → List ℤ → Tested ℤ
reduced kind values = some_or Empty (reduced_by (form_of kind) values)

-- one read of a leaf in each of so many rows
abbrev pub column_log : ℕ → ℕ → List Access
column_log leaf rows = column_reads leaf 0 rows

-- one number of the values of a leaf
unfoldable pub reduction : Content → ReduceKind → List PathStep → Tested Told
reduction content kind path = do
  leaf ← leaf_of content.fields path
  number ← reduced kind (column leaf content.rows)
  Ok (record { log = column_log leaf (length content.rows); text = number_line number })

-- in how many rows the filter is not 0
unfoldable pub counting : Content → Value → Tested Told
counting content filter = do
  term ← bound content.fields (length content.extents) filter
  rows ← ok_or (update_fault content.fields) (counted term content.extents content.rows)
  Ok (record { log = count_log term content.extents content.rows (length content.rows); text = number_line (pos rows) })
