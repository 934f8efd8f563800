-- One more item of a list that is mapped, and how a cell of a split is stored.
use Rattle.map_split.proofs.Imports.{◌≡◌, ℕ, ◌<◌, Bool, true, false, List, map, length, get_or, slice_get, Some, ap, ◌∙◌, arith, not, length-map, slice_get-get_or, get_or_from_slice_get, count_by, Hold, merged, rank_first, rank_rest, map-merged, merged_first, merged_rest, length-merged}

module _ (side : List Bool) (hs gs : List Hold) (cell : ℕ) (inside : cell < length side) (left : length hs ≡ count_by (λ (s : Bool). s) side)
    (right : length gs ≡ count_by not side) where
  abbrev width : Hold → ℕ
  width hold = hold.width

  -- its hold is the one on its side
  pub held_first : (hold : Hold) → get_or side cell false ≡ true → slice_get hs (rank_first side cell) ≡ Some hold → slice_get (merged side hs gs) cell ≡ Some hold
  held_first hold goes e =
      let size : length (merged side hs gs) ≡ length side = length-merged side hs gs (omega (arith, left)) (omega (arith, right)) in
      slice_get-get_or (merged side hs gs) cell hold (omega arith)
      ∙ ap Some (grind (arith, merged_first, get_or_from_slice_get))

  pub held_rest : (hold : Hold) → get_or side cell false ≡ false → slice_get gs (rank_rest side cell) ≡ Some hold → slice_get (merged side hs gs) cell ≡ Some hold
  held_rest hold stays e =
      let size : length (merged side hs gs) ≡ length side = length-merged side hs gs (omega (arith, left)) (omega (arith, right)) in
      slice_get-get_or (merged side hs gs) cell hold (omega arith)
      ∙ ap Some (grind (arith, merged_rest, get_or_from_slice_get))

  -- and so is its width
  pub width_first : get_or side cell false ≡ true → get_or (map width hs) (rank_first side cell) 0 ≡ get_or (map width (merged side hs gs)) cell 0
  width_first goes = grind (arith, length-map, get_or, map-merged, merged_first)

  pub width_rest : get_or side cell false ≡ false → get_or (map width gs) (rank_rest side cell) 0 ≡ get_or (map width (merged side hs gs)) cell 0
  width_rest stays = grind (arith, length-map, get_or, map-merged, merged_rest)
