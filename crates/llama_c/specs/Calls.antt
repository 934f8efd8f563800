-- What calls answer and leave, by what their handles held.
use Rattle.std.specs.Prelude.{ℕ, ◌≡◌, ◌⊎◌, Bool, ℤ, List, length, Option, Some, None, Ok, Err}
use Rattle.line_grammar.specs.Prelude.{Sentence}
use Rattle.views.specs.Prelude.{Table, leaf_count_of, owners_of, after_log, Read, all_accesses}
use Rattle.c_lines.specs.Prelude.{Answer, Tells, TellsLeft, code_of, refusal_number, given_or, DoesLine, IsToldInto, in_64, fault_left, TellsPut, TellsPlaces, source_after, target_after, was_copied}
use Rattle.c_lines.specs.declared.refusal.Fault.{Fault}
use Rattle.c_lines.specs.declared.refusal.Refusal.TheVariants.{NoView, NoMemory}
use Rattle.leaf_places.specs.declared.told.Places.{Places}

-- how many rows, leaves and blobs a table has
abbrev pub row_count_told : Table → Answer ℕ
row_count_told table = Ok (length table.rows)

abbrev pub leaf_count_told : Table → Answer ℕ
leaf_count_told table = Ok (leaf_count_of table)

abbrev pub blob_count_told : Table → Answer ℕ
blob_count_told table = Ok (length (owners_of table))

-- ---- views that are made

-- what a handle holds after a call that makes a view
abbrev pub held_or : Option Table → Answer Table → Option Table
held_or old (Ok made) = Some made
held_or old (Err refusal) = old

-- a call that makes this view, or tells this refusal, but for want of memory: its number, its fault, and what the handle holds
pub record IsMade (told : Answer Table) (code : ℤ) (old new : Option Table) (fault fault_new : Fault) : Type 0 where
  pub answer : Answer Table
  pub tells : Tells (λ view. view) told answer
  pub code_is : code ≡ code_of answer
  pub held : new ≡ held_or old answer
  pub fault_is : fault_new ≡ fault_left fault answer

-- ---- tables that are changed

-- a call that answers this of a table and leaves that, but for want of memory, on a handle that held a table
pub record IsChanged {A : Type 0} (told : Answer A) (after table : Table) (answer : Answer A) (new : Option Table) : Type 0 where
  pub left : Table
  pub tells : TellsLeft told after table answer left
  pub held : new ≡ Some left

-- the same on any handle
abbrev pub Changes : {A : Type 0} → (Table → Answer A) → (Table → Table) → Option Table → Answer A → Option Table → Type 0
Changes told after None answer new = (answer ≡ Err NoView) × (new ≡ None)
Changes told after (Some table) answer new = IsChanged (told table) (after table) table answer new

-- its number and its fault
pub record IsCallDone {A : Type 0} (told : Table → Answer A) (after : Table → Table) (old new : Option Table) (code : ℤ) (fault fault_new : Fault) : Type 0 where
  pub answer : Answer A
  pub changes : Changes told after old answer new
  pub code_is : code ≡ code_of answer
  pub fault_is : fault_new ≡ fault_left fault answer

-- the number that a line gives, and the caller's own where it gives none
abbrev pub number_or : ℤ → Answer (Option ℤ) → ℤ
number_or old (Ok (Some number)) = number
number_or old (Ok None) = old
number_or old (Err refusal) = old

-- ---- lines

-- what is said of an answer and of the table that is left, on any handle
pub record IsLeft (Holds : Table → Type 0) (new : Option Table) : Type 0 where
  pub left : Table
  pub holds : Holds left
  pub held : new ≡ Some left

abbrev pub OnHeld : {A : Type 0} → (Table → Answer A → Table → Type 0) → Option Table → Answer A → Option Table → Type 0
OnHeld Says None answer new = (answer ≡ Err NoView) × (new ≡ None)
OnHeld Says (Some table) answer new = IsLeft (Says table answer) new

-- a call that does a line: a number of it that is none of the caller's type is a refusal
pub record IsLineDone (is : Sentence → Bool) (line : List ℕ) (old new : Option Table) (code value value_new : ℤ) (fault fault_new : Fault) : Type 0 where
  pub answer : Answer (Option ℤ)
  pub does : OnHeld (DoesLine is line) old answer new
  pub code_is : code ≡ code_of (in_64 answer)
  pub value_is : value_new ≡ number_or value (in_64 answer)
  pub fault_is : fault_new ≡ fault_left fault (in_64 answer)

-- one that tells what a line shows
abbrev pub ToldInto : List ℕ → List ℕ → ℕ → List ℕ → ℕ → Option Table → Answer (Unit {0}) → Option Table → Type 0
ToldInto line buffer needed buffer_new needed_new None answer new = (answer ≡ Err NoView) × (new ≡ None) × (buffer_new ≡ buffer) × (needed_new ≡ needed)
ToldInto line buffer needed buffer_new needed_new (Some table) answer new = IsLeft (λ left. IsToldInto line table left buffer needed answer buffer_new needed_new) new

pub record IsLineTold (line : List ℕ) (old new : Option Table) (code : ℤ) (buffer buffer_new : List ℕ) (needed needed_new : ℕ) (fault fault_new : Fault) : Type 0 where
  pub answer : Answer (Unit {0})
  pub tells : ToldInto line buffer needed buffer_new needed_new old answer new
  pub code_is : code ≡ code_of answer
  pub fault_is : fault_new ≡ fault_left fault answer

-- ---- two handles

abbrev pub copy_told : Option Table → Option Table → Answer (Unit {0})
copy_told (Some source) (Some target) = was_copied source target
copy_told (Some source) None = Err NoView
copy_told None target = Err NoView

abbrev pub source_left : Option Table → Option Table → Option Table
source_left (Some source) (Some target) = Some (source_after (was_copied source target) source)
source_left (Some source) None = Some source
source_left None target = None

abbrev pub target_left : Option Table → Option Table → Option Table
target_left (Some source) (Some target) = Some (target_after (was_copied source target) source target)
target_left (Some source) None = None
target_left None target = target

-- ---- buffers

-- a call that puts these bytes of a table into a buffer, but for want of memory: an empty handle has none
pub record IsPutInto (told : Answer (List ℕ)) (code : ℤ) (buffer buffer_new : List ℕ) (needed needed_new : ℕ) : Type 0 where
  pub answer : Answer (Unit {0})
  pub tells : TellsPut told buffer needed answer buffer_new needed_new
  pub code_is : code ≡ code_of answer

-- the table of a handle after it was printed; where memory ran out, some values were read
abbrev pub IsReadOnce : Option Table → ℤ → Option Table → Type 0
IsReadOnce None code new = new ≡ None
IsReadOnce (Some table) code new =
    ((code ≡ refusal_number NoMemory) × (left : Table) × (new ≡ Some left) × (left ≡ record table { tally = left.tally }))
    ⊎ (new ≡ Some (after_log table (all_accesses Read (leaf_count_of table) (length table.rows))))

-- ---- places

-- what may be answered of a leaf
abbrev pub TellsPlacesOf : ℕ → Option Table → Answer Places → Type 0
TellsPlacesOf leaf None answer = answer ≡ Err NoView
TellsPlacesOf leaf (Some table) answer = TellsPlaces leaf table answer

-- a call that tells where a leaf lies: its number, its fault, and what it writes
pub record IsPlaced (leaf : ℕ) (held : Option Table) (code : ℤ) (places places_new : Places) (fault fault_new : Fault) : Type 0 where
  pub answer : Answer Places
  pub tells : TellsPlacesOf leaf held answer
  pub code_is : code ≡ code_of answer
  pub places_are : places_new ≡ given_or places answer
  pub fault_is : fault_new ≡ fault_left fault answer
