-- The words of an answer: those of the program where it has some, but a leaf is its number.
use Rattle.std.specs.Prelude.{◌≡◌, ◌∷◌, ◌&&◌, if◌then◌else◌}
use Rattle.c_lines.specs.Imports.{ℕ, ℤ, pos, Bool, List, [], codes, Option, Some, None, Ok, Err, int_eq, digits_text, fault_words}
use Rattle.record_dim.specs.Std.{find}
use Rattle.extents.specs.declared.words.BadExtents.TheVariants as extents
use Rattle.map_expr.specs.declared.check.BadMapping.TheVariants as mapping
use Rattle.record_dim.specs.declared.fault.BadRecord.TheVariants as fields
use Rattle.worlds.specs.declared.fault.BadActors.TheVariants as actors
use Rattle.worlds.specs.declared.fault.BadAdvice.TheVariants as advice
use Rattle.worlds.specs.declared.fault.BadFile.TheVariants as file
use Rattle.worlds.specs.declared.fault.BadKernel.TheVariants as kernel
use Rattle.worlds.specs.declared.fault.BadStencil.TheVariants as stencil
use Rattle.worlds.specs.declared.fault.CommandFault.TheVariants as command
use Rattle.c_lines.specs.Answers.{Answer, refusal_number}
use Rattle.c_lines.specs.Faults.{cause_of, fault_of}
use Rattle.c_lines.specs.declared.refusal.Fault.{Fault}
use Rattle.c_lines.specs.declared.refusal.Refusal.{Refusal}
use Rattle.c_lines.specs.declared.refusal.Refusal.TheVariants.{NoView, NoPlace, NoMemory, NoRoom, BadType, Range, Narrow, Mismatch, Syntax, TooDeep, OtherLine, LineTooLong, Unknown, BadRecord, BadExtents, BadMapping, TooBig, BadKernel, Empty, MissingColumn, ColumnTwice, ShortRow, Number, BadFile, Twice, Overflow, DivideByZero, NotCounted, BadWindow, Irregular, BadStencil, BadActors, BadAdvice, SharedByte}
use Rattle.c_lines.specs.declared.refusal.TextOf.TheVariants.{First, Second}

-- what a refusal is called
abbrev pub words_for : Refusal → List ℕ
words_for NoView = codes "NoView"
words_for NoPlace = codes "NoPlace"
words_for NoMemory = codes "NoMemory"
words_for NoRoom = codes "NoRoom"
words_for BadType = codes "BadType"
words_for (OtherLine text) = codes "OtherLine"
words_for Unknown = codes "Unknown"
words_for (Irregular leaf) = codes "Irregular"
words_for (Range row leaf) = fault_words (command.Range row (digits_text leaf))
words_for (Narrow row leaf) = fault_words (command.Narrow row (digits_text leaf))
words_for Mismatch = fault_words command.Mismatch
words_for (Syntax text column) = fault_words (command.Syntax column)
words_for (TooDeep text) = fault_words command.TooDeep
words_for (LineTooLong text) = fault_words command.LineTooLong
words_for (BadRecord bad) = fault_words (command.BadRecord bad)
words_for (BadExtents bad) = fault_words (command.BadExtents bad)
words_for (BadMapping bad) = fault_words (command.BadMapping bad)
words_for TooBig = fault_words command.TooBig
words_for (BadKernel bad) = fault_words (command.BadKernel bad)
words_for Empty = fault_words command.Empty
words_for (MissingColumn leaf) = fault_words (command.MissingColumn (digits_text leaf))
words_for (ColumnTwice leaf) = fault_words (command.ColumnTwice (digits_text leaf))
words_for (ShortRow row leaf) = fault_words (command.ShortRow row (digits_text leaf))
words_for (Number row leaf) = fault_words (command.Number row (digits_text leaf))
words_for (BadFile bad) = fault_words (command.BadFile bad)
words_for (Twice leaf) = fault_words (command.Twice (digits_text leaf))
words_for (Overflow row) = fault_words (command.Overflow row)
words_for (DivideByZero row) = fault_words (command.DivideByZero row)
words_for NotCounted = fault_words command.NotCounted
words_for BadWindow = fault_words command.BadWindow
words_for (BadStencil bad) = fault_words (command.BadStencil bad)
words_for (BadActors bad) = fault_words (command.BadActors bad)
words_for (BadAdvice bad) = fault_words (command.BadAdvice bad)
words_for (SharedByte blob byte) = fault_words (command.SharedByte blob byte)

-- each refusal that names this row, leaf and column, where it names one
abbrev pub refusals_at : Fault → List Refusal
refusals_at fault = NoView ∷ NoPlace ∷ NoMemory ∷ NoRoom ∷ BadType ∷ Range fault.row fault.leaf ∷ Narrow fault.row fault.leaf ∷ Mismatch
    ∷ Syntax First fault.column ∷ Syntax Second fault.column ∷ TooDeep First ∷ TooDeep Second ∷ OtherLine First ∷ OtherLine Second ∷ LineTooLong First ∷ LineTooLong Second ∷ Unknown
    ∷ BadRecord fields.TooDeep ∷ BadRecord fields.Empty ∷ BadRecord fields.Twice ∷ BadRecord fields.NoElements ∷ BadRecord fields.TooManyLeaves
    ∷ BadExtents extents.Rank ∷ BadExtents extents.TwoRows ∷ BadExtents extents.RowsBesideZero ∷ BadExtents extents.NotDivisible ∷ BadExtents extents.NotEqual ∷ BadExtents extents.TooMany
    ∷ BadMapping mapping.TooDeep ∷ BadMapping mapping.Counter ∷ BadMapping mapping.Lanes ∷ BadMapping mapping.Width
    ∷ BadMapping mapping.Granule ∷ BadMapping mapping.Side ∷ BadMapping mapping.Field ∷ BadMapping mapping.NotFull
    ∷ TooBig ∷ BadKernel kernel.Lanes ∷ BadKernel kernel.Wide ∷ BadKernel kernel.Constant ∷ Empty
    ∷ MissingColumn fault.leaf ∷ ColumnTwice fault.leaf ∷ ShortRow fault.row fault.leaf ∷ Number fault.row fault.leaf
    ∷ BadFile file.Magic ∷ BadFile file.Header ∷ BadFile file.Layout ∷ BadFile file.Length ∷ BadFile file.Contents
    ∷ Twice fault.leaf ∷ Overflow fault.row ∷ DivideByZero fault.row ∷ NotCounted ∷ BadWindow ∷ Irregular fault.leaf
    ∷ BadStencil stencil.Reach ∷ BadStencil stencil.Weight ∷ BadStencil stencil.Terms ∷ BadStencil stencil.Rounds ∷ BadActors actors.Cuts ∷ BadActors actors.Turns
    ∷ BadAdvice advice.Granule ∷ BadAdvice advice.Passes ∷ BadAdvice advice.Candidates ∷ SharedByte fault.row fault.column ∷ []

-- whether a refusal has this number and this cause
abbrev pub is_told : ℤ → ℤ → Refusal → Bool
is_told answer cause refusal = int_eq (refusal_number refusal) answer && int_eq (cause_of refusal) cause

-- the refusal that a call answers and reports so
abbrev pub refusal_by : ℤ → Fault → Option Refusal
refusal_by answer fault = find (is_told answer fault.cause) (refusals_at fault)

-- what is said of the other answers, and of a number that is none
abbrev pub words_beside : ℤ → Answer (List ℕ)
words_beside answer =
    if int_eq answer (pos 0) then Ok (codes "Done") else
    if int_eq answer (pos 25) then Ok (codes "Null") else
    if int_eq answer (pos 26) then Ok (codes "Same") else Err NoPlace

abbrev pub words_by : ℤ → Option Refusal → Answer (List ℕ)
words_by answer (Some refusal) = Ok (words_for refusal)
words_by answer None = words_beside answer

-- what is said of an answer and its fault
abbrev pub message_told : ℤ → Fault → Answer (List ℕ)
message_told answer fault = words_by answer (refusal_by answer fault)

-- of each refusal this is what it is called
abbrev pub MessagesTell : Type 0
MessagesTell = (refusal : Refusal) → message_told (refusal_number refusal) (fault_of refusal) ≡ Ok (words_for refusal)
