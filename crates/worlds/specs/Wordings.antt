-- How it is said why a command is refused: in the words of a script, where a leaf is its path text, or as a caller of the library has it.
use Rattle.worlds.specs.Imports.{Result, RowFault, Spot, Fields}
use Rattle.csv_rows.specs.declared.fault.RowFault.TheVariants as rows
use Rattle.worlds.specs.Names.{text_of_leaf}
use Rattle.worlds.specs.Outcomes.{Tested}
use Rattle.worlds.specs.declared.fault.CommandFault.{CommandFault}
use Rattle.worlds.specs.declared.fault.CommandFault.TheVariants as fault

-- the fault of a dataset, the leaf by its path text; want of memory is no fault of a dataset
abbrev pub row_fault : Fields → RowFault → CommandFault
row_fault fields (rows.MissingColumn leaf) = fault.MissingColumn (text_of_leaf fields leaf)
row_fault fields (rows.ColumnTwice leaf) = fault.ColumnTwice (text_of_leaf fields leaf)
row_fault fields (rows.ShortRow row leaf) = fault.ShortRow row (text_of_leaf fields leaf)
row_fault fields (rows.Number row leaf) = fault.Number row (text_of_leaf fields leaf)
row_fault fields (rows.Range row leaf) = fault.Range row (text_of_leaf fields leaf)
row_fault fields (rows.Narrow row leaf) = fault.Narrow row (text_of_leaf fields leaf)
row_fault fields rows.NoMemory = fault.TooBig

-- the fault of a value that is not held
abbrev pub narrow_fault : Fields → Spot → CommandFault
narrow_fault fields spot = fault.Narrow spot.row (text_of_leaf fields spot.leaf)

-- what is said of a test that names no leaf, of a dataset, and of a value that is not held; the last two number the leaves of these fields
pub record Wording (E : Type 0) : Type 1 where
  pub tested : {A : Type 0} → Tested A → Result A E
  pub of_row : Fields → RowFault → E
  pub of_spot : Fields → Spot → E

-- as a script has it
abbrev pub in_words : Wording CommandFault
in_words = record { tested = λ outcome. outcome; of_row = row_fault; of_spot = narrow_fault }
