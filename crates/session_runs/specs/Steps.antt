-- What the text of a line does to a world.
use Rattle.std.specs.Prelude.{ℕ, Bool, List, length, nat_lt, ◌≡◌, if◌then◌else◌, Option, IfSome, Result, Ok, Err}
use Rattle.session_runs.specs.Imports.{File, Sentence, deepest, Version, line_of, StepFault, LineEnd, World, Outcome, Faults, Left, step, LineTooLong, Syntax, TooDeep}
use Rattle.command_checks.specs.declared.fault.StepFault.TheVariants as fault
use Rattle.worlds.specs.declared.fold.LineEnd.TheVariants as end

-- a text that is no line, or the line that it is; no expression is more than 32 deep
abbrev pub step_line : List File → World → Result Sentence ℕ → Bool → Outcome Left
step_line files world (Err column) unread = Faults (Syntax column)
step_line files world (Ok sentence) unread = if nat_lt 32 (deepest sentence) then Faults TooDeep else step world sentence files unread

-- the text of a line in a version of the language over these files, which has at most 4,096 bytes; `unread`: reading fails in this line
abbrev pub step_text : Version → List File → World → List ℕ → Bool → Outcome Left
step_text version files world text unread = if nat_lt 4096 (length text) then Faults LineTooLong else step_line files world (line_of version text) unread

-- the end of a run at a line that could not read this file
abbrev pub TellsFile : List ℕ → LineEnd → Type 0
TellsFile file (end.Source told) = told ≡ file
TellsFile file end.NoMemory = Unit {0}
TellsFile file (end.Command fault) = ⊥
TellsFile file end.Sink = ⊥

-- the end of a run at a line that a session refused so; the line reads this file, if it reads one
abbrev pub EndsAs : Option (List ℕ) → StepFault → LineEnd → Type 0
EndsAs file (fault.Command refusal) ending = ending ≡ end.Command refusal
EndsAs file fault.Source ending = IfSome file (λ name. TellsFile name ending)
EndsAs file fault.Sink ending = ending ≡ end.Sink
EndsAs file fault.NoMemory ending = ending ≡ end.NoMemory
