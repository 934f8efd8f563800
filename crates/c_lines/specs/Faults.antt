-- What C learns of a refusal beside its number.
use Rattle.c_lines.specs.Imports.{ℕ, ℤ, pos, Option, Some, None, Ok, Err, BadExtents, BadMapping, BadRecord, BadActors, BadAdvice, BadFile, BadKernel, BadStencil}
use Rattle.extents.specs.declared.words.BadExtents.TheVariants as extents
use Rattle.map_expr.specs.declared.check.BadMapping.TheVariants as mapping
use Rattle.record_dim.specs.declared.fault.BadRecord.TheVariants as fields
use Rattle.worlds.specs.declared.fault.BadActors.TheVariants as actors
use Rattle.worlds.specs.declared.fault.BadAdvice.TheVariants as advice
use Rattle.worlds.specs.declared.fault.BadFile.TheVariants as file
use Rattle.worlds.specs.declared.fault.BadKernel.TheVariants as kernel
use Rattle.worlds.specs.declared.fault.BadStencil.TheVariants as stencil
use Rattle.c_lines.specs.Answers.{Answer}
use Rattle.c_lines.specs.declared.refusal.Fault.{Fault}
use Rattle.c_lines.specs.declared.refusal.Refusal.{Refusal}
use Rattle.c_lines.specs.declared.refusal.Refusal.TheVariants as refusal
use Rattle.c_lines.specs.declared.refusal.TextOf.{TextOf}
use Rattle.c_lines.specs.declared.refusal.TextOf.TheVariants.{First, Second}

-- the number of a text of a call
abbrev pub text_number : TextOf → ℤ
text_number First = pos 1
text_number Second = pos 2

abbrev pub record_cause : BadRecord → ℤ
record_cause fields.TooDeep = pos 1
record_cause fields.Empty = pos 2
record_cause fields.Twice = pos 3
record_cause fields.NoElements = pos 4
record_cause fields.TooManyLeaves = pos 5

abbrev pub extents_cause : BadExtents → ℤ
extents_cause extents.Rank = pos 1
extents_cause extents.TwoRows = pos 2
extents_cause extents.RowsBesideZero = pos 3
extents_cause extents.NotDivisible = pos 4
extents_cause extents.NotEqual = pos 5
extents_cause extents.TooMany = pos 6

abbrev pub mapping_cause : BadMapping → ℤ
mapping_cause mapping.TooDeep = pos 1
mapping_cause mapping.Counter = pos 2
mapping_cause mapping.Lanes = pos 3
mapping_cause mapping.Width = pos 4
mapping_cause mapping.Granule = pos 5
mapping_cause mapping.Side = pos 6
mapping_cause mapping.Field = pos 7
mapping_cause mapping.NotFull = pos 8

abbrev pub kernel_cause : BadKernel → ℤ
kernel_cause kernel.Lanes = pos 1
kernel_cause kernel.Wide = pos 2
kernel_cause kernel.Constant = pos 3

abbrev pub file_cause : BadFile → ℤ
file_cause file.Magic = pos 1
file_cause file.Header = pos 2
file_cause file.Layout = pos 3
file_cause file.Length = pos 4
file_cause file.Contents = pos 5

abbrev pub stencil_cause : BadStencil → ℤ
stencil_cause stencil.Reach = pos 1
stencil_cause stencil.Weight = pos 2
stencil_cause stencil.Terms = pos 3
stencil_cause stencil.Rounds = pos 4

abbrev pub actors_cause : BadActors → ℤ
actors_cause actors.Cuts = pos 1
actors_cause actors.Turns = pos 2

abbrev pub advice_cause : BadAdvice → ℤ
advice_cause advice.Granule = pos 1
advice_cause advice.Passes = pos 2
advice_cause advice.Candidates = pos 3

-- which of several causes it is, or which text it is of, and 0 where there is but one
abbrev pub cause_of : Refusal → ℤ
cause_of (refusal.Syntax text column) = text_number text
cause_of (refusal.TooDeep text) = text_number text
cause_of (refusal.OtherLine text) = text_number text
cause_of (refusal.LineTooLong text) = text_number text
cause_of (refusal.BadRecord bad) = record_cause bad
cause_of (refusal.BadExtents bad) = extents_cause bad
cause_of (refusal.BadMapping bad) = mapping_cause bad
cause_of (refusal.BadKernel bad) = kernel_cause bad
cause_of (refusal.BadFile bad) = file_cause bad
cause_of (refusal.BadStencil bad) = stencil_cause bad
cause_of (refusal.BadActors bad) = actors_cause bad
cause_of (refusal.BadAdvice bad) = advice_cause bad
cause_of _ = pos 0

-- the row and the leaf that it names, and the column of a text, but of a byte its blob and its place there; 0 where it names none
abbrev pub row_named : Refusal → ℕ
row_named (refusal.Range row leaf) = row
row_named (refusal.Narrow row leaf) = row
row_named (refusal.ShortRow row leaf) = row
row_named (refusal.Number row leaf) = row
row_named (refusal.Overflow row) = row
row_named (refusal.DivideByZero row) = row
row_named (refusal.SharedByte blob byte) = blob
row_named _ = 0

abbrev pub leaf_named : Refusal → ℕ
leaf_named (refusal.Range row leaf) = leaf
leaf_named (refusal.Narrow row leaf) = leaf
leaf_named (refusal.MissingColumn leaf) = leaf
leaf_named (refusal.ColumnTwice leaf) = leaf
leaf_named (refusal.ShortRow row leaf) = leaf
leaf_named (refusal.Number row leaf) = leaf
leaf_named (refusal.Twice leaf) = leaf
leaf_named (refusal.Irregular leaf) = leaf
leaf_named _ = 0

abbrev pub column_of : Refusal → ℕ
column_of (refusal.Syntax text column) = column
column_of (refusal.SharedByte blob byte) = byte
column_of _ = 0

-- the row of a view that a command is refused at, if it is at one
abbrev pub row_told : Refusal → Option ℕ
row_told (refusal.Range row leaf) = Some row
row_told (refusal.Narrow row leaf) = Some row
row_told (refusal.Overflow row) = Some row
row_told (refusal.DivideByZero row) = Some row
row_told _ = None

abbrev pub fault_of : Refusal → Fault
fault_of refused = record { cause = cause_of refused; row = row_named refused; leaf = leaf_named refused; column = column_of refused }

-- what a call tells of its fault: a call that is done leaves what the caller had there
abbrev pub fault_left : {A : Type 0} → Fault → Answer A → Fault
fault_left old (Ok given) = old
fault_left old (Err refused) = fault_of refused
