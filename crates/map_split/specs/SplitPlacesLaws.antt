-- The places of a cell of a split are those on its side.
use Rattle.std.specs.Prelude.{◌≡◌, ℕ, ◌<◌, Bool, true, false, List, map, length, get_or, not}
use Rattle.record_dim.specs.Std.{ap, ◌∙◌, arith, length-map}
use Rattle.places.specs.Prelude.{Owner, Bit, IsLocated, shifted, relabel_located, left_located, right_located, recelled, numbers_of, split}
use Rattle.places.specs.declared.piece.Piece.{Piece}
use Rattle.map_split.specs.Sides.{rank_first, rank_rest}
use Rattle.map_split.specs.SidesLaws.{number_first, number_rest}

-- a cell under its number in the whole
recelled_located : (numbers : List ℕ) (layout : List (List Owner)) (slot from cell width : ℕ) (pieces : List Piece) → get_or numbers from 0 ≡ cell
    → IsLocated layout slot from width pieces → IsLocated (recelled numbers layout) slot cell width pieces
recelled_located numbers layout slot from cell width pieces number h =
    relabel_located (λ s c b. Bit s (get_or numbers c 0) b) layout slot from slot cell width pieces (λ k l. ap (λ (c : ℕ). Bit slot c k) number) h

module _ (side : List Bool) (first rest : List (List Owner)) (slot cell width : ℕ) (pieces : List Piece) (inside : cell < length side) where
  pub first_located : get_or side cell false ≡ true → IsLocated first slot (rank_first side cell) width pieces
      → IsLocated (split side first rest) slot cell width pieces
  first_located goes h =
      let number : get_or (numbers_of side) (rank_first side cell) 0 ≡ cell = number_first 0 side cell inside goes ∙ (omega arith) in
      left_located (recelled (numbers_of side) first) (recelled (numbers_of (map not side)) rest) slot cell width pieces
      (recelled_located (numbers_of side) first slot (rank_first side cell) cell width pieces number h)

  pub rest_located : get_or side cell false ≡ false → IsLocated rest slot (rank_rest side cell) width pieces
      → IsLocated (split side first rest) slot cell width (map (shifted (length first)) pieces)
  rest_located stays h =
      let number : get_or (numbers_of (map not side)) (rank_rest side cell) 0 ≡ cell =
      number_rest 0 side cell inside stays ∙ (omega arith) in
      let long : length (recelled (numbers_of side) first) ≡ length first = length-map first _ in
      right_located (recelled (numbers_of side) first) (recelled (numbers_of (map not side)) rest) (length first) slot cell width pieces long
      (recelled_located (numbers_of (map not side)) rest slot (rank_rest side cell) cell width pieces number h)
