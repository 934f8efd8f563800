-- The cells that a mapping hands to the one inside it, and whether that one holds them whole.
use Rattle.std.specs.Prelude.{ℕ, ◌/◌, ◌==◌, ◌&&◌, ◌||◌, Bool, false, not, if◌then◌else◌, List, ◌∷◌, map, replicate}
use Rattle.map_bytes.specs.Imports.{flat_map, sum_by, kind_number, width_of, LeafType, U8, Cell, Hold}

-- the bytes of cells as cells of their own, least significant first
abbrev pub byte_cells_of : List Cell → List Cell
byte_cells_of cells = flat_map (λ cell. replicate (width_of cell.kind / 8) (record { leaf = cell.leaf; kind = U8 })) cells

-- how many bytes cells have
abbrev pub byte_count : List Cell → ℕ
byte_count cells = sum_by (λ cell. width_of cell.kind / 8) cells

-- cells of the type `from` as cells of the type `to`
abbrev pub changed : LeafType → LeafType → List Cell → List Cell
changed from to cells =
    map (λ cell. record { leaf = cell.leaf; kind = if kind_number cell.kind == kind_number from then to else cell.kind }) cells

-- whether two ways of storing are the same
abbrev pub same_hold : Hold → Hold → Bool
same_hold hold other = (hold.width == other.width) && (if hold.signed then other.signed else not other.signed)

-- some cell is stored in another way than in this list
abbrev pub differ : List Hold → List Hold → Bool
differ (hold ∷ holds) (other ∷ others) = not (same_hold hold other) || differ holds others
differ _ _ = false
