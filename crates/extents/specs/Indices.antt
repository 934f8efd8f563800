-- The indices of an array in rows.
use Rattle.std.specs.Prelude.{ℕ, ◌*◌, ◌<◌, ◌≤◌, ◌^◌, List, [], ◌∷◌, map, length, All}
use Rattle.std.specs.List.{flat_map, range_with_len, AllZip}

-- all indices inside the extents, in lexicographic order: row r has the index at place r.
-- A proof opens it by name: at written-out extents it is a list of up to 2 ^ 24 entries
unfoldable pub indices : List ℕ → List (List ℕ)
indices [] = [] ∷ []
indices (n ∷ ns) = flat_map (λ i. map (λ rest. i ∷ rest) (indices ns)) (range_with_len 0 n)

-- an index inside the extents: as many components as extents, each below its extent
abbrev pub IsInside : List ℕ → List ℕ → Type 0
IsInside extents index = AllZip (λ i n. i < n) index extents

-- the product of the extents
abbrev pub product : List ℕ → ℕ
product [] = 1
product (n ∷ ns) = n * product ns

-- the extents that an array may have: 1 to 4, each below 2 ^ 32, with at most 2 ^ 24 rows
pub record IsExtents (extents : List ℕ) : Type 0 where
  pub some : 0 < length extents
  pub few : length extents ≤ 4
  pub narrow : All (λ n. n < 2 ^ 32) extents
  pub rows : length (indices extents) ≤ 2 ^ 24
