-- The tables of a run over lines of the language are opened as they were saved.
use Rattle.std.specs.Prelude.{ℕ, ◌≡◌, Bool, List, Option, Some}
use Rattle.layout_io.specs.Prelude.{File}
use Rattle.line_grammar.specs.Prelude.{Sentence, Save}
use Rattle.line_grammar.specs.declared.version.Version.TheVariants.{Two}
use Rattle.views.specs.Prelude.{Table}
use Rattle.worlds.specs.Prelude.{World, found, Goes, Left, step}
use Rattle.equal_runs.specs.Lines.{AreLines}
use Rattle.equal_runs.specs.Logs.{SoFar, at_first, Comes}
use Rattle.saved_runs.specs.SavedRuns.{IsSavable, once_written, OpensAs}

-- each table to which a run over lines of the second version comes can be said by a file
abbrev pub RunsSavable : Type 0
RunsSavable =
    (texts : List (List ℕ)) (lines : List Sentence) (files : List File) (unread : Option ℕ) (now : SoFar) (name : List ℕ) (table : Table)
    → AreLines Two texts lines → Comes files unread 1 at_first lines now → found name now.world.views ≡ Some table → IsSavable table

-- bytes are opened as the table of a name, each value written once
pub record Reopens (world : World) (name bytes : List ℕ) : Type 0 where
  pub table : Table
  pub is : found name world.views ≡ Some table
  pub opens : OpensAs bytes (once_written table)

-- so is what a save writes to which such a run comes
abbrev pub RunsReopen : Type 0
RunsReopen =
    (texts : List (List ℕ)) (lines : List Sentence) (files : List File) (unread : Option ℕ) (now : SoFar) (name : List ℕ) (fails : Bool) (left : Left)
    → AreLines Two texts lines → Comes files unread 1 at_first lines now → step now.world (Save name) files fails ≡ Goes left → Reopens now.world name left.text
