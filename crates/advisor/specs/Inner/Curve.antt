-- Slots that rows have, and the index of a slot on the Morton curve.
use Rattle.std.specs.Prelude.{ℕ, zero, suc, ◌+◌, ◌-◌, ◌*◌, ◌/◌, ◌^◌, ◌<◌, ◌≤◌, Bool, List, length, is_some, slice_index_or}
use Rattle.advisor.specs.Imports.{bit_at, Order, row_at}

-- a slot is that of a row
abbrev pub has_row : Order → List ℕ → ℕ → Bool
has_row order extents slot = is_some (row_at order extents slot)

-- the number of so many binary digits, which are those of a slot from a place on, `rank` places apart
abbrev pub gathered : ℕ → ℕ → ℕ → ℕ → ℕ
gathered rank place slot zero = 0
gathered rank place slot (suc digits) = gathered rank place slot digits + bit_at slot (digits * rank + place) * 2 ^ digits

-- a component of the index of a slot on the curve, where a slot has at most 24 digits
abbrev pub component : ℕ → ℕ → ℕ → ℕ
component rank slot d = gathered rank (rank - 1 - d) slot (24 / rank)

-- each component lies at least so far from the end of its extent
pub record IsFarFromEnds (extents : List ℕ) (slot room : ℕ) : Type 0 where
  pub some : 0 < room
  pub within : (d : ℕ) → d < length extents → component (length extents) slot d + room ≤ slice_index_or extents d 0

-- some component lies behind its extent
abbrev pub IsOutside : List ℕ → ℕ → Type 0
IsOutside extents slot = (d : ℕ) × (d < length extents) × (slice_index_or extents d 0 ≤ component (length extents) slot d)
