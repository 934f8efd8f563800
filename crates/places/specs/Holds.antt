-- How cells are stored, and the limits of a mapping.
use Rattle.std.specs.Prelude.{ℕ, ◌*◌, ◌^◌, ◌<◌, ◌⊎◌, List, [], ◌∷◌, length, map, min, sum_by}
use Rattle.record_dim.specs.Prelude.{width_of, is_signed}
use Rattle.record_dim.specs.declared.leaf_type.LeafType.{LeafType}
use Rattle.places.specs.Layout.{Owner}
use Rattle.places.specs.declared.piece.Cell.{Cell}
use Rattle.places.specs.declared.piece.Hold.{Hold}

-- the sign and the width of a type
abbrev pub hold_of : LeafType → Hold
hold_of kind = record { signed = is_signed kind; width = width_of kind }

-- the same in at most `width` bits
abbrev pub hold_within : ℕ → LeafType → Hold
hold_within width kind = record { signed = is_signed kind; width = min width (width_of kind) }

-- each cell in the sign and the width of its type
abbrev pub full_holds : List Cell → List Hold
full_holds cells = map (λ cell. hold_of cell.kind) cells

-- each cell in its type's sign and at most its own number of bits
abbrev pub narrow_holds : List ℕ → List Cell → List Hold
narrow_holds (width ∷ widths) (cell ∷ cells) = hold_within width cell.kind ∷ narrow_holds widths cells
narrow_holds _ _ = []

-- the widths in which cells are stored
abbrev pub widths_in : List Hold → List ℕ
widths_in holds = map (λ hold. hold.width) holds

-- the widths of the cells' types
abbrev pub widths_of : List Cell → List ℕ
widths_of cells = map (λ cell. width_of cell.kind) cells

-- more than 2^24 slots, or more than 2^28 bytes in all blobs
abbrev pub IsTooBig : ℕ → List (List Owner) → Type 0
IsTooBig slots layout = (2 ^ 24 < slots) ⊎ (8 * 2 ^ 28 < sum_by length layout)
