-- The most steps that a line takes.
use Rattle.std.specs.Prelude.{ℕ, ◌+◌, ◌≤◌, not, List, Option, Some, None, MatchBool, Ok}
use Rattle.session.specs.Imports.{copy_cost, IsWay, Strategy, MapTerm, Table, are_alike, nameless, Tested, ◌>>=◌, known, refused_if, made, World, found, same_name, Mismatch, Within, kernel_steps}
use Rattle.line_grammar.specs.Sentences as line

-- the most steps of what is done to a table, and none where there is no table
abbrev pub most_on : Option Table → (Table → Option ℕ) → Option ℕ
most_on None most = Some 0
most_on (Some table) most = most table

-- a table, and the one that it is copied into
pub record Pair : Type 0 where
  pub source : Table
  pub target : Table

-- two tables that are alike
abbrev pub paired : Table → Table → Tested Pair
paired source target = do
  alike ← refused_if (not (are_alike source target)) Mismatch
  Ok (record { source = source; target = target })

-- what is copied by `copy V to W`, and by `relayout V as ..`, where nothing is refused before the values are looked at
unfoldable pub copied_pair : World → List ℕ → List ℕ → Tested Pair
copied_pair world name target_name = do
  source ← known name world.views
  target ← known target_name world.views
  paired source target

unfoldable pub laid_pair : World → List ℕ → MapTerm → Tested Pair
laid_pair world name term = do
  table ← known name world.views
  whole ← nameless world.mappings term
  zeros ← made world.views table.mode table.fields table.extents whole
  Ok (record { source = table; target = zeros })

-- the steps of a copy: those of the way that the one table is copied into the other by, and none where there is nothing to copy
abbrev pub WithinCost : Tested Pair → ℕ → ℕ → Type 0
WithinCost (Ok pair) old new = (strategy : Strategy) → IsWay pair.source pair.target strategy
    → new ≤ old + copy_cost strategy pair.source.mapping pair.target.mapping pair.target.fields pair.target.extents
WithinCost _ old new = Within (Some 0) old new

-- those of a copy from one table into another one
abbrev pub IsWithin : Table → Table → ℕ → ℕ → Type 0
IsWithin source target old new = WithinCost (paired source target) old new

-- those of the two commands; a copy of a table onto itself takes none
abbrev pub WithinCopy : World → List ℕ → List ℕ → ℕ → ℕ → Type 0
WithinCopy world name target_name old new =
    MatchBool (same_name name target_name) (Within (Some 0) old new) (WithinCost (copied_pair world name target_name) old new)

abbrev pub WithinRelayout : World → List ℕ → MapTerm → ℕ → ℕ → Type 0
WithinRelayout world name term old new = WithinCost (laid_pair world name term) old new

-- the steps that a line takes: those of a kernel, a copy and a relayout are bounded; of any other line nothing is said
abbrev pub WithinSteps : World → line.Sentence → ℕ → ℕ → Type 0
WithinSteps world (line.Kernel name text lanes) old new = Within (most_on (found name world.views) (λ table. Some (kernel_steps table text lanes))) old new
WithinSteps world (line.Copy name target_name) old new = WithinCopy world name target_name old new
WithinSteps world (line.Relayout name term) old new = WithinRelayout world name term old new
WithinSteps world _ old new = Unit {0}
