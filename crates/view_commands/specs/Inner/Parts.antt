-- The parts of commands that may store.
use Rattle.std.specs.Prelude.{ℕ, ◌++◌, ◌∷◌, ℤ, List, [], length, slice_index_or, Option, None, Result, Ok, Err}
use Rattle.view_commands.specs.Imports.{Term, EvalFault, indices, KernelFault, place_in, with_entry, rows_log, value_log, Setting, updated_of, UpdateFault, UpdateKind, Write, Table, answer_of, StoreFault, Done, stores, Tested, ◌>>=◌, ok_or, update_fault, storable, value_on}
use Rattle.expr_lang.specs.declared.fault.EvalFault.TheVariants as eval
use Rattle.lane_kernels.specs.declared.fault.KernelFault.TheVariants as kernel
use Rattle.row_updates.specs.declared.fault.UpdateKind.TheVariants as update
use Rattle.views.specs.declared.fault.StoreFault.TheVariants as store
use Rattle.worlds.specs.declared.fault.CommandFault.TheVariants as command
use Rattle.command_checks.specs.declared.fault.StepFault.TheVariants as step
use Rattle.view_commands.specs.Changes.{front_left}
use Rattle.view_commands.specs.declared.change.ChangeFault.{ChangeFault}
use Rattle.view_commands.specs.declared.change.ChangeFault.TheVariants as change

-- the value of an expression goes into a leaf of the row of an index
abbrev pub set_in : Table → List ℕ → ℕ → Term ℕ → Tested Done
set_in table index leaf term =
    let row = place_in (indices table.extents) index in do
      number ← value_on row (slice_index_or table.rows row []) index term
      kept ← storable table row leaf number
      Ok (stores (with_entry table.rows row leaf kept) (value_log row (slice_index_or table.rows row []) index term ++ Write row leaf ∷ []))

-- the fault of a store in a leaf of a row, of an expression in a row, of an update and of a kernel
abbrev pub store_fault : ℕ → ℕ → StoreFault → ChangeFault
store_fault row leaf store.Range = change.Range row leaf
store_fault row leaf store.Narrow = change.Narrow row leaf

abbrev pub eval_fault : ℕ → EvalFault → ChangeFault
eval_fault row eval.Overflow = change.Other (step.Command (command.Overflow row))
eval_fault row eval.DivideByZero = change.Other (step.Command (command.DivideByZero row))

abbrev pub kind_fault : ℕ → UpdateKind → ChangeFault
kind_fault row update.Overflow = eval_fault row eval.Overflow
kind_fault row update.DivideByZero = eval_fault row eval.DivideByZero
kind_fault row (update.Range leaf) = change.Range row leaf
kind_fault row (update.Narrow leaf) = change.Narrow row leaf

abbrev pub fault_of_update : UpdateFault → ChangeFault
fault_of_update fault = kind_fault fault.row fault.kind

abbrev pub fault_of_kernel : KernelFault → ChangeFault
fault_of_kernel kernel.Empty = change.Other (step.Command command.Empty)
fault_of_kernel (kernel.Range row leaf) = change.Range row leaf
fault_of_kernel (kernel.Narrow row leaf) = change.Narrow row leaf

-- what a store gives, which gives no number
abbrev pub store_told : ℕ → ℕ → Result (Unit {0}) StoreFault → Result (Option ℤ) ChangeFault
store_told row leaf (Ok done) = Ok None
store_told row leaf (Err fault) = Err (store_fault row leaf fault)

-- an update whose words are known, and its rows before one of them
abbrev pub updated_by : Table → Option (Term ℕ) → List Setting → Tested Done
updated_by table test settings = do
  rows ← ok_or (update_fault table.fields) (updated_of table test settings (length table.rows))
  Ok (stores rows (rows_log (answer_of table) test settings table.extents table.rows (length table.rows)))

abbrev pub front_by : Table → Option (Term ℕ) → List Setting → ℕ → List (List ℤ)
front_by table test settings row = front_left table row (ok_or (update_fault table.fields) (updated_of table test settings row))
