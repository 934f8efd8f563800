-- The parts of commands.
use Rattle.std.specs.Prelude.{◌≡◌, ℕ, ℤ, List, [], ◌∷◌, length, slice_index_or, slice_set, Option, Result, Ok, Err}
use Rattle.session.specs.Imports.{Term, with_entry, Fields, MapTerm, checked, Table, answer_of, kept_of, after_log, after_stores, Write, Entry, Tested, ◌>>=◌, LeftOf, ok_or, Done, stores, narrow_fault, row_fault, update_fault, value_on, storable, all_read, copied, made, zeros_of, RowFault, Setting, updated_rows, value_log, rows_log, StepFault, CommandFault, BadMapping, Mismatch, CopyFault}
use Rattle.csv_rows.specs.declared.fault.RowFault.TheVariants as rows
use Rattle.command_checks.specs.declared.fault.StepFault.TheVariants as step
use Rattle.layout_copy.specs.declared.fault.CopyFault.TheVariants as copy

-- an expression that can be a mapping, whatever its cells are
abbrev pub mapping_fits : MapTerm → Tested (Unit {0})
mapping_fits term = ok_or BadMapping (checked term)

-- what a fault of a view is told as: this refusal, unless memory was wanting
abbrev pub Tells : CommandFault → Result CommandFault StepFault → Type 0
Tells refusal (Ok told) = told ≡ refusal
Tells refusal (Err fault) = fault ≡ step.NoMemory

-- the fault of a dataset, or want of memory
abbrev pub TellsRow : Fields → RowFault → Result CommandFault StepFault → Type 0
TellsRow fields rows.NoMemory told = told ≡ Err step.NoMemory
TellsRow fields fault told = Tells (row_fault fields fault) told

-- the tables beside one another, that at one place read, and then that at a place as a copy of it
abbrev pub copied_at : List (Entry Table) → ℕ → ℕ → Entry Table → Tested (List (Entry Table))
copied_at views place target d =
    let source = slice_index_or views place d in
    let read = slice_set views place (record { name = source.name; held = all_read source.held }) in
    let old = slice_index_or read target d in do
      new ← copied source.held old.held
      Ok (slice_set read target (record { name = old.name; held = new }))

-- a table of zeros of the mode, the record and the extents of another one, and its making beside these
abbrev pub zeros_like : Table → MapTerm → Table
zeros_like table term = zeros_of table.mode table.fields table.extents term

abbrev pub made_like : List (Entry Table) → Table → MapTerm → Tested Table
made_like views table term = made views table.mode table.fields table.extents term

-- the fault of a copy
abbrev pub TellsCopy : Fields → CopyFault → Result CommandFault StepFault → Type 0
TellsCopy fields copy.Mismatch told = Tells Mismatch told
TellsCopy fields (copy.Narrow row leaf) told = Tells (narrow_fault fields (record { row = row; leaf = leaf })) told
