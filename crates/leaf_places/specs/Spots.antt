-- How the places of a leaf lead rows to bits.
use Rattle.std.specs.Prelude.{ℕ, ◌≡◌, ◌+◌, ◌*◌, ◌/◌, ◌%◌, ◌≤◌, Bool, true, false, [], ◌∷◌}
use Rattle.linearize.specs.Slots.{interleaved}
use Rattle.blobs.specs.Bits.{IsWholeBytes}
use Rattle.blobs.specs.Turned.{turned_place}
use Rattle.leaf_places.specs.declared.told.Places.{Places}

-- how far the number in a row lies: rows go in groups, evenly in each of them; or in Morton order over lines, which are the groups, and columns
abbrev pub spot_by : Bool → ℕ → ℕ → ℕ → ℕ → ℕ → ℕ
spot_by true base lanes lane block row = base + interleaved (row / lanes ∷ row % lanes ∷ []) * block
spot_by false base lanes lane block row = base + row / lanes * block + row % lanes * lane

abbrev pub spot_in : Places → ℕ → ℕ
spot_in places row = spot_by places.in_digits places.base places.lanes places.lane places.block row

-- the first of its bits: what is told in bytes is eight times as far in bits
abbrev pub first_by : Bool → ℕ → ℕ
first_by true spot = spot
first_by false spot = 8 * spot

abbrev pub first_bit : Places → ℕ → ℕ
first_bit places row = first_by places.in_bits (spot_in places row)

-- where bit k of a number of so many bits stands, whose first is this one, and whose bytes may be in reverse order
abbrev pub bit_by : Bool → ℕ → ℕ → ℕ → ℕ
bit_by true first width k = first + turned_place width k
bit_by false first width k = first + k

-- fields of bits have at most 57, so that the eight bytes from the first one on hold them, and are not turned; all else is one, two, four or eight
-- bytes
abbrev pub IsForm : Bool → Bool → ℕ → Type 0
IsForm true turned width = (turned ≡ false) × (width ≤ 57)
IsForm false turned width = IsWholeBytes width
