-- How a command ends that may store: the number that it gives, why it is refused, and what it then leaves.
use Rattle.std.specs.Prelude.{ℕ, zero, suc, ◌≡◌, ◌++◌, ℤ, List, [], length, drop, Option, Some, None, Result, Ok, Err}
use Rattle.view_commands.specs.Imports.{run_rows, Kernel, Value, Assignment, Fields, updated_of, Stencil, stenciled, StencilFault, Table, kept_of, number_text, bound_filter, bound_sets, each_once, leaves_of, text_of_leaf, Done, done_to, Tested, ◌>>=◌, ok_or, update_fault, GivesUp, StepFault}
use Rattle.worlds.specs.declared.fault.CommandFault.TheVariants as command
use Rattle.command_checks.specs.declared.fault.StepFault.TheVariants as step
use Rattle.view_commands.specs.declared.change.ChangeFault.{ChangeFault}
use Rattle.view_commands.specs.declared.change.ChangeFault.TheVariants as change

-- a fault in the words of a script, which names a leaf by its path
abbrev pub worded : Fields → ChangeFault → StepFault
worded fields (change.Range row leaf) = step.Command (command.Range row (text_of_leaf fields leaf))
worded fields (change.Narrow row leaf) = step.Command (command.Narrow row (text_of_leaf fields leaf))
worded fields (change.Twice leaf) = step.Command (command.Twice (text_of_leaf fields leaf))
worded fields (change.Other fault) = fault

-- a fault that this outcome has; want of memory is free
abbrev pub Ends : {A : Type 0} → Fields → Tested A → ChangeFault → Type 0
Ends fields outcome fault = GivesUp outcome (worded fields fault)

-- what a part of a command gave, seen by `view`
abbrev pub Gave : {A B : Type 0} → Fields → (A → B) → Result A ChangeFault → Tested B → Type 0
Gave fields view (Ok x) outcome = outcome ≡ Ok (view x)
Gave fields view (Err fault) outcome = Ends fields outcome fault

-- the row that a fault names, if it names one
abbrev pub row_of : ChangeFault → Option ℕ
row_of (change.Range row leaf) = Some row
row_of (change.Narrow row leaf) = Some row
row_of (change.Other (step.Command (command.Overflow row))) = Some row
row_of (change.Other (step.Command (command.DivideByZero row))) = Some row
row_of _ = None

-- a table with these rows, of which some accesses may be counted
abbrev pub HasRows : Table → List (List ℤ) → Table → Type 0
HasRows old rows new = new ≡ record old { rows = rows; tally = new.tally }

-- the rows that are left where this one is refused, and all where none is
abbrev pub left_at : (ℕ → List (List ℤ)) → Table → Option ℕ → List (List ℤ)
left_at left table (Some row) = left row
left_at left table None = table.rows

-- what a command answers and leaves, whose outcome on a table is this, by the rows that it leaves where it is refused at one
abbrev pub Changed : Tested Done → (ℕ → List (List ℤ)) → Table → Result (Option ℤ) ChangeFault → Table → Type 0
Changed outcome left old (Ok given) new = done_to old outcome ≡ Ok (record { held = new; text = number_text given })
Changed outcome left old (Err fault) new = Ends old.fields outcome fault × HasRows old (left_at left old (row_of fault)) new

-- ---- the rows that are left by a refusal at a row

abbrev pub all_left : Table → ℕ → List (List ℤ)
all_left table row = table.rows

-- an update has changed those before it
abbrev pub updated_front : Table → Option Value → List Assignment → ℕ → Tested (List (List ℤ))
updated_front table filter sets row = do
  test ← bound_filter table.fields (length table.extents) filter
  settings ← bound_sets table.fields (length table.extents) sets
  once ← each_once table.fields [] (leaves_of settings)
  ok_or (update_fault table.fields) (updated_of table test settings row)

abbrev pub front_left : Table → ℕ → Tested (List (List ℤ)) → List (List ℤ)
front_left table row (Ok front) = front ++ drop row table.rows
front_left table row (Err fault) = table.rows

-- so has a kernel
abbrev pub kernel_left : Table → ℕ → Tested Kernel → List (List ℤ)
kernel_left table row (Ok kernel) = run_rows (kept_of table) kernel row table.rows
kernel_left table row (Err fault) = table.rows

-- a stencil has made the rounds before the one that is refused: as many, up to some, as go
abbrev pub gone_or : List (List ℤ) → Result (List (List ℤ)) StencilFault → List (List ℤ)
gone_or before (Ok rows) = rows
gone_or before (Err fault) = before

abbrev pub rounds_left : Table → Stencil → ℕ → List (List ℤ)
rounds_left table stencil zero = table.rows
rounds_left table stencil (suc rounds) = gone_or (rounds_left table stencil rounds) (stenciled table stencil (suc rounds))

abbrev pub stencil_left : Table → ℕ → Tested Stencil → List (List ℤ)
stencil_left table rounds (Ok stencil) = rounds_left table stencil rounds
stencil_left table rounds (Err fault) = table.rows
