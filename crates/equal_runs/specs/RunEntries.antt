-- What a run shows of its accesses is what it made of them.
use Rattle.std.specs.Prelude.{◌+◌, ◌≡◌, ◌++◌}
use Rattle.equal_runs.specs.Imports.{ℕ, Bool, List, length, Option, Some, File, texts_of, Sentence, Show, Counts, Heat, Version, LeafCounts, HeatCounts, counts_text, heat_text, AreCounts, AreHeat, Table, owners_of, leaf_count_of, Access, Tally, tallied, no_tally, World, empty, found, Outcome, Goes, Left, step, run_from, prepend}
use Rattle.equal_runs.specs.Lines.{AreLines}
use Rattle.equal_runs.specs.Logs.{SoFar, at_first, Comes, log_of}

-- the tally of a view to which these accesses were made since it was made
abbrev pub tally_since : Table → List Access → Tally
tally_since table log = tallied (owners_of table) (no_tally table.mapping (owners_of table) (leaf_count_of table)) log

-- the text is that of the counts by leaf of this tally, each the number of the accesses to the leaf of this view since the view was made
pub record ShowsCounts (now : SoFar) (name text : List ℕ) : Type 0 where
  pub table : Table
  pub is : found name now.world.views ≡ Some table
  pub numbers : LeafCounts
  pub shown : text ≡ counts_text (texts_of table.fields) numbers
  pub counted : (tally_since table (log_of now name)).counts ≡ Some numbers
  pub each : AreCounts (leaf_count_of table) (log_of now name) numbers

-- and of those by granule, each the number of the accesses that touch the granule
pub record ShowsHeat (now : SoFar) (name text : List ℕ) : Type 0 where
  pub table : Table
  pub is : found name now.world.views ≡ Some table
  pub numbers : HeatCounts
  pub shown : text ≡ heat_text numbers
  pub counted : (tally_since table (log_of now name)).heat ≡ Some numbers
  pub each : AreHeat (owners_of table) (log_of now name) numbers

-- a run over lines, whose texts do to a world what they do, goes on from where they take it, behind what they wrote; what a `counts` and a
-- `heat` write there are the accesses that the run made until then
pub record ShowsEntries (version : Version) (files : List File) (outcome : World → List ℕ → Bool → Outcome Left) : Type 0 where
  pub runs : (texts more : List (List ℕ)) (lines : List Sentence) (unread : Option ℕ) (now : SoFar) → AreLines version texts lines → Comes files unread 1 at_first lines now
      → run_from outcome 1 empty (texts ++ more) unread ≡ prepend now.text (run_from outcome (length lines + 1) now.world more unread)
  pub counts : (lines : List Sentence) (unread : Option ℕ) (now : SoFar) (name : List ℕ) (fails : Bool) (left : Left) → Comes files unread 1 at_first lines now
      → step now.world (Show Counts name) files fails ≡ Goes left → ShowsCounts now name left.text
  pub heat : (lines : List Sentence) (unread : Option ℕ) (now : SoFar) (name : List ℕ) (fails : Bool) (left : Left) → Comes files unread 1 at_first lines now
      → step now.world (Show Heat name) files fails ≡ Goes left → ShowsHeat now name left.text
