-- What a side of a split costs, and ways of storing.
use Rattle.std.specs.Prelude.{ℕ, ◌≡◌, ◌≤◌, ◌^◌, List, [], length, slice_index_or, Option, Some, None, Ok}
use Rattle.advisor.specs.Imports.{Cell, Hold, Term, Named, layout_of, Table}
use Rattle.advisor.specs.declared.pass.Pass.{Pass}
use Rattle.advisor.specs.Judged.{judged}
use Rattle.advisor.specs.Passes.{part_cost, leaves_in}

-- a way of storing of 1 to 64 bits
pub record IsHold (hold : Hold) : Type 0 where
  pub some : 1 ≤ hold.width
  pub narrow : hold.width ≤ 64

-- one of some expressions
abbrev pub term_at : List Term → ℕ → Term
term_at terms at = slice_index_or terms at (Named [])

-- there is a granule, and at most 16 passes
pub record IsPrice (granule : ℕ) (passes : List Pass) : Type 0 where
  pub some : 1 ≤ granule
  pub few : length passes ≤ 16

-- the cost of an expression over some leaves of a table; there is none where it is no layout of them within the limits
abbrev pub IsSideCost : Table → ℕ → List Pass → List Cell → Term → Option ℕ → Type 0
IsSideCost table granule passes cells term None = judged granule term table.extents table.fields cells ≡ Ok tt → ⊥
IsSideCost table granule passes cells term (Some cost) =
    (cost ≡ part_cost passes granule (leaves_in cells) (layout_of term table.extents table.fields cells)) × (cost ≤ 2 ^ 60)
