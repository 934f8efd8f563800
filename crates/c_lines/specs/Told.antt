-- Why a command of the model of scripts or a store is refused, as the answer of a call.
use Rattle.c_lines.specs.Imports.{ℕ, RowFault, Spot, StoreFault, Tested, ok_or, Wording, CommandFault}
use Rattle.csv_rows.specs.declared.fault.RowFault.TheVariants as row
use Rattle.views.specs.declared.fault.StoreFault.TheVariants as store
use Rattle.worlds.specs.declared.fault.CommandFault.TheVariants as command
use Rattle.c_lines.specs.Answers.{Answer, answer_map}
use Rattle.c_lines.specs.declared.refusal.Refusal.{Refusal}
use Rattle.c_lines.specs.declared.refusal.Refusal.TheVariants as refusal

-- the refusal of a fault that names no leaf. No other one refuses the commands of calls, and where one did, the call would have no answer but
-- want of memory, which may come at any time
abbrev pub refusal_of : CommandFault → Refusal
refusal_of (command.Unknown name) = refusal.Unknown
refusal_of (command.BadRecord bad) = refusal.BadRecord bad
refusal_of (command.BadExtents bad) = refusal.BadExtents bad
refusal_of (command.BadMapping bad) = refusal.BadMapping bad
refusal_of (command.BadKernel bad) = refusal.BadKernel bad
refusal_of command.Mismatch = refusal.Mismatch
refusal_of command.TooBig = refusal.TooBig
refusal_of command.Empty = refusal.Empty
refusal_of command.BadIndex = refusal.NoPlace
refusal_of command.BadWindow = refusal.BadWindow
refusal_of command.NotCounted = refusal.NotCounted
refusal_of (command.Overflow row) = refusal.Overflow row
refusal_of (command.DivideByZero row) = refusal.DivideByZero row
refusal_of (command.BadStencil bad) = refusal.BadStencil bad
refusal_of (command.BadActors bad) = refusal.BadActors bad
refusal_of (command.BadAdvice bad) = refusal.BadAdvice bad
refusal_of (command.SharedByte blob byte) = refusal.SharedByte blob byte
refusal_of _ = refusal.NoMemory

-- what a command gives that reads no file, as an answer
abbrev pub told : {A : Type 0} → Tested A → Answer A
told outcome = ok_or refusal_of outcome

-- that of a store in a leaf of a row
abbrev pub store_refusal : ℕ → ℕ → StoreFault → Refusal
store_refusal at leaf store.Range = refusal.Range at leaf
store_refusal at leaf store.Narrow = refusal.Narrow at leaf

-- of a dataset
abbrev pub row_refusal : RowFault → Refusal
row_refusal (row.MissingColumn leaf) = refusal.MissingColumn leaf
row_refusal (row.ColumnTwice leaf) = refusal.ColumnTwice leaf
row_refusal (row.ShortRow at leaf) = refusal.ShortRow at leaf
row_refusal (row.Number at leaf) = refusal.Number at leaf
row_refusal (row.Range at leaf) = refusal.Range at leaf
row_refusal (row.Narrow at leaf) = refusal.Narrow at leaf
row_refusal row.NoMemory = refusal.NoMemory

-- of a value that is not held
abbrev pub spot_refusal : Spot → Refusal
spot_refusal spot = refusal.Narrow spot.row spot.leaf

-- why a command is refused, as a call has it: a leaf is its number
abbrev pub in_numbers : Wording Refusal
in_numbers = record { tested = told; of_row = λ fields. row_refusal; of_spot = λ fields. spot_refusal }

-- an answer that gives nothing
abbrev pub done_of : {A : Type 0} → Answer A → Answer (Unit {0})
done_of answer = answer_map (λ given. tt) answer
