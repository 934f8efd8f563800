-- What a search for the places of a leaf asks of rows, one by one.
use Rattle.std.specs.Prelude.{ℕ, ◌≡◌, ◌+◌, ◌<◌, ◌≤◌, false, List, length, slice_index}
use Rattle.places.specs.Prelude.{Owner, Bit, owner_at}
use Rattle.leaf_places.specs.Spots.{bit_by, first_by, spot_by, IsForm}
use Rattle.leaf_places.specs.declared.sought.Sought.{Sought}
use Rattle.leaf_places.specs.declared.grouped.Grouped.{Grouped}

-- what is sought is a leaf of these widths, of its width
pub record IsSought (widths : List ℕ) (sought : Sought) : Type 0 where
  pub leaf_in : sought.leaf < length widths
  pub wide : sought.width ≡ slice_index widths sought.leaf
  pub form : IsForm sought.in_bits sought.is_turned sought.width

-- the number in a row stands at a place
abbrev pub StandsAt : List (List Owner) → Sought → ℕ → ℕ → ℕ → Type 0
StandsAt layout sought row blob place =
    (k : ℕ) → k < sought.width → owner_at layout blob (bit_by sought.is_turned (first_by sought.in_bits place) sought.width k) ≡ Bit row sought.leaf k

-- those in so many rows stand where a way leads them
abbrev pub StandAlong : List (List Owner) → Sought → ℕ → ℕ → (ℕ → ℕ) → Type 0
StandAlong layout sought rows blob way = (row : ℕ) → row < rows → StandsAt layout sought row blob (way row)

-- and none in front of the first
pub record IsWay (layout : List (List Owner)) (sought : Sought) (rows blob : ℕ) (way : ℕ → ℕ) : Type 0 where
  pub stands : StandAlong layout sought rows blob way
  pub upward : (row : ℕ) → way 0 ≤ way row

-- where groups lead a row
abbrev pub place_in : Grouped → ℕ → ℕ
place_in grouped row = spot_by false grouped.base grouped.lanes grouped.lane grouped.block row

-- one group of all rows, which begins as a way does
pub record IsBegun (rows blob : ℕ) (way : ℕ → ℕ) (one : Grouped) : Type 0 where
  pub same_blob : one.blob ≡ blob
  pub first : one.base ≡ way 0
  pub second : 1 < rows → one.base + one.lane ≡ way 1
  pub alone : one.lanes ≡ rows
  pub last : one.block ≡ 0
