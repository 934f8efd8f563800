-- What the answer to a line says of what was read and written, and which lines work on one view.
use Rattle.std.specs.Prelude.{ℕ, ◌≡◌, List, Option, Result, Err}
use Rattle.session.specs.Imports.{Line, IsRecord, Ending, Refuses, Breaks, Starves, StepFault}
use Rattle.line_grammar.specs.declared.line.Line.TheVariants as line
use Rattle.worlds.specs.Answers.{Unread}
use Rattle.command_checks.specs.declared.fault.StepFault.TheVariants as fault

-- what a fault of a session is to a line that reads this file, if it reads one
abbrev pub ending_of : Option (List ℕ) → StepFault → Ending
ending_of file (fault.Command refusal) = Refuses refusal
ending_of file fault.Source = Unread file
ending_of file fault.Sink = Breaks
ending_of file fault.NoMemory = Starves

-- nothing was taken at a refusal, nor where a file was not read
abbrev pub TookNone : {S K : Type 0} → (K → Option (List ℕ)) → K → K → Result S StepFault → Type 0
TookNone taken old new (Err (fault.Command refusal)) = taken new ≡ taken old
TookNone taken old new (Err fault.Source) = taken new ≡ taken old
TookNone taken old new _ = Unit {0}

-- the tree of a record that is defined is one of fields, as the grammar says
abbrev pub IsFit : Line → Type 0
IsFit (line.Define name dim) = IsRecord dim
IsFit _ = Unit {0}

-- a line that works on one view
abbrev pub IsOnView : Line → Type 0
IsOnView line.Blank = ⊥
IsOnView (line.Define name dim) = ⊥
IsOnView (line.Mapping name expr) = ⊥
IsOnView (line.View name schema words wrap expr) = ⊥
IsOnView (line.Load name schema words wrap expr file) = ⊥
IsOnView (line.Copy source target) = ⊥
IsOnView (line.Relayout view expr) = ⊥
IsOnView (line.Drop view) = ⊥
IsOnView (line.OpenFile name file) = ⊥
IsOnView _ = Unit {0}
