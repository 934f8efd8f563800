-- Where a cell of a split stands.
use Rattle.std.specs.Prelude.{ℕ, ◌≡◌, Bool, true, false, List, slice_index_or}
use Rattle.map_split.specs.Sides.{rank_first, rank_rest}
use Rattle.map_split.specs.declared.sides.Seat.{Seat}
use Rattle.map_split.specs.declared.sides.Seat.TheVariants.{First, Rest}

-- the side that the cell goes to, with the cell's number there
abbrev pub IsSeat : List Bool → ℕ → Seat → Type 0
IsSeat side cell (First number) = (slice_index_or side cell false ≡ true) × (number ≡ rank_first side cell)
IsSeat side cell (Rest number) = (slice_index_or side cell false ≡ false) × (number ≡ rank_rest side cell)
