-- The parts of layouts packed to the bit, and what a mapping keeps of them.
use Rattle.std.specs.Prelude.{ℕ, ◌≡◌, ◌≤◌, not, ◌&&◌, nat_le, All, Bool, List, length, map, take}
use Rattle.record_dim.specs.Std.{flat_map, range_with_len, sum, list_any}
use Rattle.places.specs.Prelude.{Owner, cells_of, fields, array, padded_to, widths_in}
use Rattle.places.specs.declared.piece.Cell.{Cell}
use Rattle.places.specs.declared.piece.Hold.{Hold}

-- a width that no cell can have
abbrev pub is_bad_width : ℕ → Bool
is_bad_width width = not (nat_le 1 width && nat_le width 64)

abbrev pub has_bad_width : List ℕ → Bool
has_bad_width widths = list_any is_bad_width widths

-- slot after slot, cell after cell
abbrev pub packed_slots : ℕ → List ℕ → List Owner
packed_slots slots widths = flat_map (λ slot. fields slot (cells_of widths)) (range_with_len 0 slots)

-- one cell in every slot, the end padded to 64 bits
abbrev pub padded_array : ℕ → ℕ × ℕ → List Owner
padded_array slots cell = padded_to 64 (array slots cell)

-- each cell begins behind all cells before it, and a slot ends behind all cells
pub record LieInBits (widths offsets : List ℕ) (stride : ℕ) : Type 0 where
  pub begins : offsets ≡ map (λ cell. sum (take cell widths)) (range_with_len 0 (length widths))
  pub ends : stride ≡ sum widths

-- there is a hold for each cell, of 1 to 64 bits
pub record AreHolds (cells : List Cell) (holds : List Hold) : Type 0 where
  pub each : length holds ≡ length cells
  pub some : All (λ w. 1 ≤ w) (widths_in holds)
  pub low : All (λ w. w ≤ 64) (widths_in holds)
