-- The blobs of a split: how many there are, and how long they are.
use Rattle.std.specs.Prelude.{◌≡◌, ℕ, ◌+◌, ◌<◌, Bool, List, [], ◌∷◌, ◌++◌, map, length, get_or, refl, not, sum_by}
use Rattle.record_dim.specs.Std.{ap, ◌∙◌, arith, length-map, map-append, get_or-map, sum-map, sum_by-append}
use Rattle.places.specs.Prelude.{Owner, recelled, numbers_of, split}

-- blobs under other cell numbers keep their lengths
lengths-recelled : (numbers : List ℕ) (layout : List (List Owner)) → map length (recelled numbers layout) ≡ map length layout
lengths-recelled numbers [] = refl
lengths-recelled numbers (blob ∷ blobs) = grind (arith, length-map, (lengths-recelled numbers blobs))

blob-recelled : (numbers : List ℕ) (layout : List (List Owner)) (b : ℕ) → b < length layout
    → length (get_or (recelled numbers layout) b []) ≡ length (get_or layout b [])
blob-recelled numbers layout b inside = grind (arith, get_or, get_or-map, length-map)

module _ (side : List Bool) (first rest : List (List Owner)) where
  abbrev front : List (List Owner)
  front = recelled (numbers_of side) first

  abbrev back : List (List Owner)
  back = recelled (numbers_of (map not side)) rest

  pub lengths-split : map length (split side first rest) ≡ map length first ++ map length rest
  lengths-split =
      map-append (length {A = Owner}) front back
      ∙ ap (λ (ns : List ℕ). ns ++ map length back) (lengths-recelled (numbers_of side) first)
      ∙ ap (λ (ns : List ℕ). map length first ++ ns) (lengths-recelled (numbers_of (map not side)) rest)

  pub bits-split : sum_by length (split side first rest) ≡ sum_by length first + sum_by length rest
  bits-split = grind (arith, sum-map, lengths-split, map-append, sum_by-append)
