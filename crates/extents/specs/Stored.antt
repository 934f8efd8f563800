-- How extents lie in memory.
use Rattle.std.proofs.Common.{sym, arith}
use Rattle.std.proofs.lemmas.List.{length-take}
use Rattle.std.specs.Prelude.{◌≡◌, ℕ, ◌-◌, ◌≤◌, List, ◌++◌, length, take, replicate}
use Rattle.extents.specs.Indices.{product, IsExtents}

-- four places, those past the rank 0
abbrev pub padded : List ℕ → List ℕ
padded extents = extents ++ replicate (4 - length extents) 0

-- the first places are the extents, and the count is their product
pub record StoresExtents (sizes : List ℕ) (rank count : ℕ) : Type 0 where
  pub long : length sizes ≡ 4
  pub ranked : rank ≤ 4
  pub padding : sizes ≡ padded (take rank sizes)
  pub extents : IsExtents (take rank sizes)
  pub counted : count ≡ product (take rank sizes)

-- nothing is lost: the extents give back what is stored
pub stored_back : (sizes : List ℕ) (rank count : ℕ) → StoresExtents sizes rank count → (padded (take rank sizes) ≡ sizes) × (length (take rank sizes) ≡ rank) × (product (take rank sizes) ≡ count)
stored_back sizes rank count h =
    (sym h.padding, omega (arith, length-take rank sizes, h.long, h.ranked), sym h.counted)
