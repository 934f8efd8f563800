-- Which granules of a blob's bytes an access to a cell touches: those in which its pieces have bits.
use Rattle.std.specs.Prelude.{ℕ, ◌+◌, ◌*◌, ◌==◌, ◌&&◌, nat_lt, min, max, Bool, false, List, [], take, drop, slice_index_or}
use Rattle.record_dim.specs.Std.{list_any}
use Rattle.places.specs.Layout.{Owner, Pad, Bit}
use Rattle.places.specs.declared.piece.Piece.{Piece}

-- whether a granule holds a bit of a piece
abbrev pub is_in_granule : ℕ → ℕ → ℕ → Piece → Bool
is_in_granule granule blob at piece =
    piece.blob == blob && nat_lt (max piece.bit (8 * granule * at)) (min (piece.bit + piece.bits) (8 * granule * (at + 1)))

-- whether it holds one of any of these pieces
abbrev pub is_touched : ℕ → List Piece → ℕ → ℕ → Bool
is_touched granule pieces blob at = list_any (is_in_granule granule blob at) pieces

-- whether a bit is one of this leaf in this row
abbrev pub is_bit_of : ℕ → ℕ → Owner → Bool
is_bit_of row leaf Pad = false
is_bit_of row leaf (Bit slot cell bit) = slot == row && cell == leaf

-- whether a granule of a blob holds such a bit
abbrev pub is_hot : List (List Owner) → ℕ → ℕ → ℕ → ℕ → ℕ → Bool
is_hot layout granule row leaf blob at = list_any (is_bit_of row leaf) (take (8 * granule) (drop (8 * granule * at) (slice_index_or layout blob [])))
