-- Which granules a piece touches, and what the steps of so many accesses at once leave.
use Rattle.std.specs.Prelude.{◌≡◌, ℕ, ◌+◌, ◌*◌, ◌≤◌, nat_le, nat_lt, min, max, ◌&&◌, not, List, [], slice_index_or, slice_set}
use Rattle.places.specs.declared.piece.Piece.{Piece}
use Rattle.places.specs.Prelude.{is_in_granule, is_touched}
use Rattle.instrument.specs.Counters.{HeatCounts, counted_times, warmed_times}

-- the granules from `first` on and below `past` are those of its blob that hold a bit of a piece
pub record AreGranulesOf (granule : ℕ) (piece : Piece) (first past : ℕ) : Type 0 where
  pub holds : (at : ℕ) → (nat_le first at && nat_lt at past) ≡ nat_lt (max piece.bit (8 * granule * at)) (min (piece.bit + piece.bits) (8 * granule * (at + 1)))
  pub rises : first ≤ past
  pub within : (many : ℕ) → piece.bit + piece.bits ≤ 8 * granule * many → past ≤ many

-- so many more in one granule of a blob
abbrev pub warmed_at : ℕ → ℕ → ℕ → HeatCounts → HeatCounts
warmed_at times blob at heat = record heat { blobs = slice_set heat.blobs blob (counted_times (slice_index_or heat.blobs blob []) at times) }

-- so many more in each granule that holds a bit of a piece and none of these others
abbrev pub heated_besides : ℕ → List Piece → Piece → HeatCounts → HeatCounts
heated_besides times others piece heat =
    record heat { blobs = warmed_times times (λ blob at. is_in_granule heat.granule blob at piece && not (is_touched heat.granule others blob at)) heat.blobs }
