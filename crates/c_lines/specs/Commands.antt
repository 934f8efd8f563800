-- A line on one view: its command, in a script that has nothing but this view, by the name that the line gives it.
use Rattle.std.specs.Prelude.{◌≡◌, ◌⊎◌, ◌&&◌, ◌^◌, if◌then◌else◌}
use Rattle.c_lines.specs.Imports.{ℕ, ℤ, pos, neg_ℤ, int_le, int_lt, Bool, true, false, List, [], Option, Some, Ok, Err, Sentence, Fields, Table, HasRows, front_left, kernel_left, left_at, stencil_left, updated_front, fit_kernel, number_text, text_of_leaf, Left, Tested, ◌>>=◌, fit_stencil, done_by, World, added, empty, CommandFault}
use Rattle.line_grammar.specs.Sentences as line
use Rattle.worlds.specs.declared.fault.CommandFault.TheVariants as command
use Rattle.c_lines.specs.Answers.{Answer}
use Rattle.c_lines.specs.Buffers.{buffer_after, needed_after, put_told}
use Rattle.c_lines.specs.Faults.{row_told}
use Rattle.c_lines.specs.Lines.{line_answer}
use Rattle.c_lines.specs.Told.{refusal_of}
use Rattle.c_lines.specs.declared.refusal.Refusal.{Refusal}
use Rattle.c_lines.specs.declared.refusal.Refusal.TheVariants as refusal
use Rattle.c_lines.specs.declared.refusal.TextOf.TheVariants.{First}

-- ---- the command

-- a world with nothing but this table
abbrev pub alone : List ℕ → Table → World
alone name table = record empty { views = added name table [] }

-- the name of the view of a line
abbrev pub view_in : Sentence → List ℕ
view_in (line.Assign name index path value) = name
view_in (line.Update name filter sets) = name
view_in (line.Kernel name kernel lanes) = name
view_in (line.Reduce name kind path) = name
view_in (line.Count name filter) = name
view_in (line.Show kind name) = name
view_in (line.Bytes name blob) = name
view_in (line.PrintWindow name spans) = name
view_in (line.Relayout name term) = name
view_in (line.Stencil name spans path terms divisor rounds) = name
view_in (line.Actors name filter sets cuts seed turns) = name
view_in (line.Advise name granule passes terms splits) = name
view_in _ = []

-- what becomes of the world of a table
abbrev pub commanded : Sentence → Table → Tested Left
commanded sentence table = done_by (alone (view_in sentence) table) sentence

-- the same of a caller who asks for a number: the memory that an update by actors writes is not told
abbrev pub untold : Tested Left → Tested Left
untold outcome = do
  left ← outcome
  Ok (record left { text = [] })

abbrev pub numbered : Sentence → Table → Tested Left
numbered (line.Actors name filter sets cuts seed turns) table = untold (commanded (line.Actors name filter sets cuts seed turns) table)
numbered sentence table = commanded sentence table

-- ---- why it is refused

-- a refusal that names a leaf with this path text
pub record NamesLeaf (fields : Fields) (text : List ℕ) (refused : ℕ → Refusal) (told : Refusal) : Type 0 where
  pub leaf : ℕ
  pub text_is : text ≡ text_of_leaf fields leaf
  pub is : told ≡ refused leaf

-- a refusal that says a fault of a command: a leaf by its number
abbrev pub Says : Fields → CommandFault → Refusal → Type 0
Says fields (command.Range row text) told = NamesLeaf fields text (λ leaf. refusal.Range row leaf) told
Says fields (command.Narrow row text) told = NamesLeaf fields text (λ leaf. refusal.Narrow row leaf) told
Says fields (command.Twice text) told = NamesLeaf fields text (λ leaf. refusal.Twice leaf) told
Says fields fault told = told ≡ refusal_of fault

pub record IsFaultOf {A : Type 0} (fields : Fields) (outcome : Tested A) (told : Refusal) : Type 0 where
  pub fault : CommandFault
  pub is : outcome ≡ Err fault
  pub says : Says fields fault told

-- the refusal of a command, or want of memory, which may come at any time
abbrev pub Refuses : {A : Type 0} → Fields → Tested A → Refusal → Type 0
Refuses fields outcome told = (told ≡ refusal.NoMemory) ⊎ IsFaultOf fields outcome told

-- ---- what a refusal leaves

-- the rows that a command leaves which is refused at this one: an update and a kernel have changed those before it, and a stencil has made the
-- rounds before the one that is refused
abbrev pub rows_left : Sentence → Table → ℕ → List (List ℤ)
rows_left (line.Update name filter sets) table row = front_left table row (updated_front table filter sets row)
rows_left (line.Kernel name kernel lanes) table row = kernel_left table row (fit_kernel table.fields kernel lanes)
rows_left (line.Stencil name spans path terms divisor rounds) table row = stencil_left table rounds (fit_stencil table spans path terms divisor rounds)
rows_left _ table row = table.rows

-- ---- the call

-- what comes of a line on a table
abbrev pub Comes : Type 0
Comes = Sentence → Table → Tested Left

-- what an answer says of it, where `text` is what is written of what is given
abbrev pub Does : {A : Type 0} → (A → List ℕ) → Comes → Sentence → Table → Answer A → Table → Type 0
Does text comes sentence old (Ok given) new = comes sentence old ≡ Ok (record { held = alone (view_in sentence) new; text = text given })
Does text comes sentence old (Err told) new = Refuses old.fields (comes sentence old) told × HasRows old (left_at (rows_left sentence old) old (row_told told)) new

-- the line of a text, where it is one of these
abbrev pub taken : (Sentence → Bool) → Sentence → Answer Sentence
taken is sentence = if is sentence then Ok sentence else Err (refusal.OtherLine First)

abbrev pub line_taken : (Sentence → Bool) → List ℕ → Answer Sentence
line_taken is text = do
  sentence ← line_answer First text
  taken is sentence

-- another text changes nothing
abbrev pub OnLine : {A : Type 0} → (A → List ℕ) → Comes → Answer Sentence → Table → Answer A → Table → Type 0
OnLine text comes (Ok sentence) old answer new = Does text comes sentence old answer new
OnLine text comes (Err told) old answer new = ((answer ≡ Err refusal.NoMemory) ⊎ (answer ≡ Err told)) × (new ≡ old)

-- the lines that `lly_do` takes
abbrev pub is_do : Sentence → Bool
is_do (line.Assign name index path value) = true
is_do (line.Update name filter sets) = true
is_do (line.Kernel name kernel lanes) = true
is_do (line.Reduce name kind path) = true
is_do (line.Count name filter) = true
is_do (line.Relayout name term) = true
is_do (line.Stencil name spans path terms divisor rounds) = true
is_do (line.Actors name filter sets cuts seed turns) = true
is_do _ = false

-- and the one that `lly_kernel` takes
abbrev pub is_kernel : Sentence → Bool
is_kernel (line.Kernel name kernel lanes) = true
is_kernel _ = false

-- what such a call answers and leaves: a number is that which the command writes, but for the memory of actors
abbrev pub DoesLine : (Sentence → Bool) → List ℕ → Table → Answer (Option ℤ) → Table → Type 0
DoesLine is text old answer new = OnLine number_text numbered (line_taken is text) old answer new

-- those that `lly_tell` takes, and the text that it tells
abbrev pub is_tell : Sentence → Bool
is_tell (line.Show kind name) = true
is_tell (line.Bytes name blob) = true
is_tell (line.PrintWindow name spans) = true
is_tell (line.Advise name granule passes terms splits) = true
is_tell _ = false

abbrev pub TellsLine : List ℕ → Table → Answer (List ℕ) → Table → Type 0
TellsLine text old answer new = OnLine (λ told. told) commanded (line_taken is_tell text) old answer new

-- all of it, with the text in a buffer
pub record IsToldInto (text : List ℕ) (old new : Table) (buffer : List ℕ) (needed : ℕ) (answer : Answer (Unit {0})) (buffer_new : List ℕ) (needed_new : ℕ) : Type 0 where
  pub told : Answer (List ℕ)
  pub tells : TellsLine text old told new
  pub answered : answer ≡ put_told told buffer
  pub filled : buffer_new ≡ buffer_after told buffer
  pub counted : needed_new ≡ needed_after told needed

-- a number as a caller has it, where it is one of 64 bits with a sign
abbrev pub is_signed_64 : ℤ → Bool
is_signed_64 number = int_le (neg_ℤ (pos (2 ^ 63))) number && int_lt number (pos (2 ^ 63))

abbrev pub in_64 : Answer (Option ℤ) → Answer (Option ℤ)
in_64 (Ok (Some number)) = if is_signed_64 number then Ok (Some number) else Err refusal.BadType
in_64 answer = answer
