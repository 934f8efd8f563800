-- What each status says of the run: `run None` is the run where no read fails, `run (Some line)` the one where reading fails at this line.
use Rattle.std.specs.Prelude.{◌≡◌, ◌<◌, ◌≤◌, ◌⊎◌, if◌then◌else◌}
use Rattle.worlds.specs.Imports.{ℕ, List, length, take, Option, None, Some, IsSome, Result, is_ok, Rose, File, with_bytes}
use Rattle.worlds.specs.Outcome.{Output, Finished, Faulted, Misused, Unread, Gives, IsText}
use Rattle.worlds.specs.declared.status.Status.{Status}
use Rattle.worlds.specs.declared.status.Status.TheVariants.{Done, CommandFault, Usage, SourceFault, SinkFault, NoMemory}

-- the bytes that were taken, by status; `read_failed` says that a read failed in this call
abbrev pub Answers : (Option ℕ → Output) → Type 0 → Status → List ℕ → Type 0
Answers run read_failed Done out = Gives (run None) out Finished
Answers run read_failed CommandFault out = Gives (run None) out Faulted
Answers run read_failed Usage out = Gives (run None) out Misused
Answers run read_failed SourceFault out = (line : ℕ) × Gives (run (Some line)) out (Unread line) × (read_failed ⊎ Gives (run None) out (Unread line))
Answers run read_failed SinkFault out = (text : List ℕ) × IsText run read_failed text × (count : ℕ) × (count < length text) × (out ≡ take count text)
Answers run read_failed NoMemory out = (text : List ℕ) × IsText run read_failed text × (count : ℕ) × (count ≤ length text) × (out ≡ take count text)

-- from old to new the sink took what the status says
pub record IsRun {K : Type 0} (taken : K → Option (List ℕ)) (old new : K) (run : Option ℕ → Output) (read_failed : Type 0) (status : Status) : Type 0 where
  pub out : List ℕ
  pub bytes : taken new ≡ with_bytes (taken old) out
  pub answer : Answers run read_failed status out

-- which counts of faults may have risen, by status; `misused` says that the words are of no form
abbrev pub HasCause : Type 0 → Option (List File) → ℕ → ℕ → ℕ → ℕ → Status → Type 0
HasCause misused files shelf_old shelf_new sink_old sink_new Done = (shelf_new ≡ shelf_old) × (sink_new ≡ sink_old)
HasCause misused files shelf_old shelf_new sink_old sink_new CommandFault = (shelf_new ≡ shelf_old) × (sink_new ≡ sink_old)
HasCause misused files shelf_old shelf_new sink_old sink_new Usage = misused × (shelf_new ≡ shelf_old) × (sink_new ≡ sink_old)
HasCause misused files shelf_old shelf_new sink_old sink_new SourceFault = (Rose shelf_old shelf_new ⊎ IsSome files) × (shelf_old ≤ shelf_new) × (sink_new ≡ sink_old)
HasCause misused files shelf_old shelf_new sink_old sink_new SinkFault = (shelf_old ≤ shelf_new) × Rose sink_old sink_new
HasCause misused files shelf_old shelf_new sink_old sink_new NoMemory = (shelf_old ≤ shelf_new) × (sink_new ≡ sink_old)

-- the same of a run that reads nothing
abbrev pub HasSinkCause : ℕ → ℕ → Status → Type 0
HasSinkCause old new Done = new ≡ old
HasSinkCause old new CommandFault = new ≡ old
HasSinkCause old new Usage = ⊥
HasSinkCause old new SourceFault = ⊥
HasSinkCause old new SinkFault = Rose old new
HasSinkCause old new NoMemory = new ≡ old

-- the exit status of the program
abbrev pub exit_number : Status → ℕ
exit_number Done = 0
exit_number CommandFault = 1
exit_number Usage = 2
exit_number SourceFault = 3
exit_number SinkFault = 4
exit_number NoMemory = 5

-- the status where this one is due, unless the last write failed
abbrev pub ended_status : {T E : Type 0} → Result T E → Status → Status
ended_status written status = if is_ok written then status else SinkFault
