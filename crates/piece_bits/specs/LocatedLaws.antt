-- The places of a cell's pieces: their owners are the cell's bits, in order.
use Rattle.std.specs.Prelude.{◌≡◌, ℕ, zero, suc, ◌+◌, ◌<◌, List, [], ◌∷◌, ◌++◌, length, get_or, map, All, refl}
use Rattle.piece_bits.specs.Imports.{sym, ap, ◌∙◌, arith, flat_map, range_with_len, map-append, length-map, get_or-map, Piece, Owner, Pad, Bit, owner_at, field, IsLocated, owners_in, length-field, field_at}
use Rattle.piece_bits.specs.Inner.Spots.{spots_of, spot_at, IsWithin, AreApart}
use Rattle.piece_bits.specs.Tables.{AreSized}
use Rattle.piece_bits.specs.SpotsOfLaws.{spots_in}

-- the owner of a place
abbrev pub spot_owner : List (List Owner) → ℕ × ℕ → Owner
spot_owner layout spot = owner_at layout spot.0 spot.1

owners_of_spots : (layout : List (List Owner)) (blob first n : ℕ) →
    map (spot_owner layout) (map (λ bit. (blob, bit)) (range_with_len first n)) ≡ map (owner_at layout blob) (range_with_len first n)
owners_of_spots layout blob first zero = refl
owners_of_spots layout blob first (suc n) = ap (λ (w : List Owner). owner_at layout blob first ∷ w) (owners_of_spots layout blob (first + 1) n)

-- the owners of the places are the owners of the pieces
pub spots_spelled : (layout : List (List Owner)) (pieces : List Piece) → map (spot_owner layout) (spots_of pieces) ≡ flat_map (owners_in layout) pieces
spots_spelled layout [] = refl
spots_spelled layout (piece ∷ pieces) =
    map-append (spot_owner layout) (spots_in piece) (spots_of pieces)
    ∙ ap (λ (w : List Owner). w ++ map (spot_owner layout) (spots_of pieces)) (owners_of_spots layout piece.blob piece.bit piece.bits)
    ∙ ap (λ (w : List Owner). owners_in layout piece ++ w) (spots_spelled layout pieces)

module _ (layout : List (List Owner)) (row cell width : ℕ) (pieces : List Piece) (located : IsLocated layout row cell width pieces) where
  spelled : map (spot_owner layout) (spots_of pieces) ≡ field row (cell, width)
  spelled = spots_spelled layout pieces ∙ located.spelled

  -- a cell has as many places as bits
  pub spot_count : length (spots_of pieces) ≡ width
  spot_count = sym (length-map (spots_of pieces) (spot_owner layout)) ∙ ap (length {A = Owner}) spelled ∙ length-field row cell width

  -- place k is that of bit k
  pub spot_owned : (k : ℕ) → k < width → owner_at layout (spot_at (spots_of pieces) k).0 (spot_at (spots_of pieces) k).1 ≡ Bit row cell k
  spot_owned k l =
      sym (get_or-map (spot_owner layout) (spots_of pieces) k (0, 0) Pad (omega (arith, spot_count)))
      ∙ ap (λ (w : List Owner). get_or w k Pad) spelled ∙ field_at row cell width k l

  -- no two places are the same
  pub spots_apart : AreApart (spots_of pieces)
  spots_apart j k l m same =
      let one : Bit row cell j ≡ Bit row cell k =
      sym (spot_owned j (omega (arith, spot_count))) ∙ ap (spot_owner layout) same ∙ spot_owned k (omega (arith, spot_count)) in
      cc

  -- the pieces lie within blobs of the layout's lengths
  pub pieces_within : (blobs : List (List ℕ)) → AreSized layout blobs → All (IsWithin blobs) pieces
  pieces_within blobs sized i d l = grind arith
