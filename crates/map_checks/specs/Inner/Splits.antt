-- How the rules of a split are made of those of its sides.
use Rattle.std.specs.Prelude.{ℕ, ◌≡◌, ◌+◌, ◌^◌, ◌<◌, All, Bool, true, false, List, length, map, slice_index_or}
use Rattle.map_checks.specs.Imports.{shifted_rule, rank_first, rank_rest}
use Rattle.map_checks.specs.declared.rule.Rule.{Rule}
use Rattle.map_checks.specs.Ruled.{EachWith}

-- a rule whose pieces are those of another, in blobs that stand behind `by` others
abbrev pub IsShifted : ℕ → Rule → Rule → Type 0
IsShifted by rule later = (later.order ≡ rule.order) × (later.pieces.items ≡ map (shifted_rule by) rule.pieces.items)

-- the numbers of the blobs behind `by` others fit their type
abbrev pub HasBlobRoom : ℕ → Rule → Type 0
HasBlobRoom by rule = All (λ piece. piece.blob + by < 2 ^ 64) rule.pieces.items

-- the pieces of a rule lie in so many blobs
abbrev pub LieWithin : ℕ → Rule → Type 0
LieWithin blobs rule = All (λ piece. piece.blob < blobs) rule.pieces.items

-- each cell's rule is that of its side; the blobs of the rest stand behind `by` others
pub record IsSplitRule (side : List Bool) (by : ℕ) (first rest : List Rule) (cell : ℕ) (rule : Rule) : Type 0 where
  pub left : slice_index_or side cell false ≡ true → (d : Rule) → IsShifted 0 (slice_index_or first (rank_first side cell) d) rule
  pub right : slice_index_or side cell false ≡ false → (d : Rule) → IsShifted by (slice_index_or rest (rank_rest side cell) d) rule

pub record AreSplitRules (side : List Bool) (by : ℕ) (first rest rules : List Rule) : Type 0 where
  pub each : length rules ≡ length side
  pub split : EachWith (IsSplitRule side by first rest) rules
