-- A change of how tables lie changes no result.
use Rattle.std.specs.Prelude.{◌≡◌}
use Rattle.equal_runs.specs.Imports.{ℕ, Bool, false, List, Option, list_any, File, Sentence, Version, World, empty, Outcome, Left, step, run_from}
use Rattle.equal_runs.specs.Lines.{AgreeButTerms, shows_layout, IsLine, AreLines}
use Rattle.equal_runs.specs.Endings.{ends_by_layout}
use Rattle.equal_runs.specs.Widths.{StaysWide}

-- the outcome of a text that is a line in this version is what the line does to a world
abbrev pub DoesLines : Version → List File → (World → List ℕ → Bool → Outcome Left) → Type 0
DoesLines version files outcome = (world : World) (text : List ℕ) (line : Sentence) (unread : Bool) → IsLine version text line → outcome world text unread ≡ step world line files unread

-- two scripts, line by line, that differ in their mapping expressions alone; neither shows how a table lies, neither run ends with a fault
-- of how tables lie, and in both each table that keeps low bits and is laid out by a line has room for all bits of the types of its leaves
pub record DifferInTerms (files : List File) (unread : Option ℕ) (lines others : List Sentence) : Type 0 where
  pub agree : AgreeButTerms lines others
  pub shown : list_any shows_layout lines ≡ false
  pub holds : ends_by_layout files 1 empty lines unread ≡ false
  pub other_holds : ends_by_layout files 1 empty others unread ≡ false
  pub wide : StaysWide files 1 empty lines unread
  pub other_wide : StaysWide files 1 empty others unread

-- the runs of two such scripts write the same bytes and end alike; `unread`: reading fails at this line, if at any
abbrev pub EqualRuns : Version → List File → (World → List ℕ → Bool → Outcome Left) → Type 0
EqualRuns version files outcome =
    (texts other_texts : List (List ℕ)) (lines others : List Sentence) (unread : Option ℕ) → AreLines version texts lines → AreLines version other_texts others
    → DifferInTerms files unread lines others → run_from outcome 1 empty texts unread ≡ run_from outcome 1 empty other_texts unread
