-- The two sides of a split: which cells go to the first, and what the whole has of both.
use Rattle.std.specs.Prelude.{ℕ, ◌+◌, ◌*◌, ◌^◌, ◌<◌, Bool, true, false, not, ◌||◌, ◌==◌, List, [], ◌∷◌, length, map, take, sum_by}
use Rattle.std.specs.List.{count_by}
use Rattle.places.specs.Prelude.{Owner}

-- the items of the cells that go to the first side, and of those that do not, each in order
abbrev pub first_of : {X : Type 0} → List Bool → List X → List X
first_of (true ∷ side) (x ∷ xs) = x ∷ first_of side xs
first_of (false ∷ side) (x ∷ xs) = first_of side xs
first_of _ _ = []

abbrev pub side_rest : {X : Type 0} → List Bool → List X → List X
side_rest side xs = first_of (map not side) xs

-- items for the cells of both sides, in the order of the whole
abbrev pub merged : {X : Type 0} → List Bool → List X → List X → List X
merged (true ∷ side) (x ∷ xs) ys = x ∷ merged side xs ys
merged (false ∷ side) xs (y ∷ ys) = y ∷ merged side xs ys
merged _ _ _ = []

-- how many of the cells before this one go to the first side, and how many do not
abbrev pub rank_first : List Bool → ℕ → ℕ
rank_first side cell = count_by (λ s. s) (take cell side)

abbrev pub rank_rest : List Bool → ℕ → ℕ
rank_rest side cell = count_by not (take cell side)

-- no cell, or every cell, goes to the first side
abbrev pub is_one_sided : List Bool → Bool
is_one_sided side = (count_by (λ s. s) side == 0) || (count_by not side == 0)

-- the blobs of both sides have more than 2^28 bytes together
abbrev pub IsTooLong : List (List Owner) → List (List Owner) → Type 0
IsTooLong first rest = 8 * 2 ^ 28 < sum_by length first + sum_by length rest
