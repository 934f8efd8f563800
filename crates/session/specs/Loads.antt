-- What the answer to a line that reads a file says of its outcome, and of what was read.
use Rattle.std.specs.Prelude.{ℕ, ◌≡◌, ◌≤◌, ◌⊎◌, Bool, true, false, nat_lt, List, length, Option, Some, IsSome, IsSomeAnd, Result, Ok, Err}
use Rattle.session.specs.Imports.{Rose, File, schema_fields, term_of, ExtentWord, csv_records, records_behind, Table, Entry, Tested, Outcome, Goes, Faults, CannotRead, Unread, sure, ◌>>=◌, refused_if, resolved, made, read, filled, Named, TooBig, StepFault}
use Rattle.line_grammar.specs.Sentences as line
use Rattle.command_checks.specs.declared.fault.StepFault.TheVariants as fault
use Rattle.session.specs.declared.view.Found.{Found}
use Rattle.session.specs.declared.view.New.{New}

-- what makes a view
abbrev pub new_of : New → line.New
new_of new = record { name = new.name; schema = new.schema; words = new.words.now; wrap = new.wrap; term = term_of new.expr.now }

-- what the words of a new view stand for
abbrev pub named_of : Found → Named
named_of found = record { fields = schema_fields found.schema.now; mode = found.mode; mapping = term_of found.expr }

-- the table of a dataset of bytes that are not too many, beside these views
abbrev pub filled_table : List (Entry Table) → Named → List ExtentWord → List ℕ → Tested Table
filled_table views whole words bytes = do
  extents ← resolved words (Some (length (records_behind (csv_records bytes))))
  zeros ← made views whole.mode whole.fields extents whole.mapping
  filled zeros (csv_records bytes)

-- the bytes of a file that has at most so many; `unread`: reading fails in this command
abbrev pub read_within : ℕ → List File → Bool → List ℕ → Outcome (List ℕ)
read_within most files unread name = do
  bytes ← read files unread name
  short ← sure (refused_if (nat_lt most (length bytes)) TooBig)
  Goes bytes

-- where reading fails the outcome is that this file can't be read; a read failed, or it is the outcome in any case
pub record IsUnread {A : Type 0} (name : List ℕ) (outcome : Bool → Outcome A) (read_failed : Type 0) : Type 0 where
  pub is : outcome true ≡ CannotRead name
  pub cause : read_failed ⊎ (outcome false ≡ CannotRead name)

-- what an answer, seen by `view`, says of the outcome of a command that reads this file, which is given by whether reading fails
abbrev pub Loads : {A B : Type 0} → List ℕ → (A → B) → (Bool → Outcome B) → Type 0 → Result A StepFault → Type 0
Loads name view outcome read_failed (Ok x) = outcome false ≡ Goes (view x)
Loads name view outcome read_failed (Err (fault.Command refusal)) = outcome false ≡ Faults refusal
Loads name view outcome read_failed (Err fault.Source) = IsUnread name outcome read_failed
Loads name view outcome read_failed (Err fault.Sink) = ⊥
Loads name view outcome read_failed (Err fault.NoMemory) = Unit {0}

-- whether the count of the shelf may have risen
abbrev pub LoadCause : {A : Type 0} → Option (List File) → ℕ → ℕ → Result A StepFault → Type 0
LoadCause files old new (Ok x) = new ≡ old
LoadCause files old new (Err (fault.Command refusal)) = new ≡ old
LoadCause files old new (Err fault.Source) = (Rose old new ⊎ IsSome files) × (old ≤ new)
LoadCause files old new (Err fault.Sink) = ⊥
LoadCause files old new (Err fault.NoMemory) = old ≤ new

-- this file alone is told as unread, and only where, if reading fails, the outcome is that it can't be read, whatever files there are
abbrev pub UnreadOnly : {A B : Type 0} → Option (List ℕ) → (List File → Bool → Outcome B) → Result A StepFault → Type 0
UnreadOnly file outcome (Err fault.Source) = IsSomeAnd file (λ name. (files : List File) → outcome files true ≡ CannotRead name)
UnreadOnly file outcome _ = Unit {0}

-- exactly these files are told where a file is read, so where the outcome is that it can't be read if reading fails; any other outcome is
-- the same whatever files there are
abbrev pub ToldFor : {A : Type 0} → Option (List File) → Outcome A → List File → Type 0
ToldFor told (Err (Unread name)) files = told ≡ Some files
ToldFor told _ files = Unit {0}
