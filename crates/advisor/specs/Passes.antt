-- What passes over a layout cost.
use Rattle.std.specs.Prelude.{ℕ, ◌*◌, ◌==◌, Bool, List, map, sum_by, slice_index_or}
use Rattle.advisor.specs.Imports.{list_any, Owner, Cell}
use Rattle.advisor.specs.declared.pass.Pass.{Pass}
use Rattle.advisor.specs.Touched.{touched}

-- a pass reads a leaf
abbrev pub reads : Pass → ℕ → Bool
reads pass leaf = list_any (λ other. other == leaf) pass.leaves

-- each pass costs the granules that hold a bit of its leaves, as often as it is made
abbrev pub cost : List Pass → ℕ → List (List Owner) → ℕ
cost passes granule layout = sum_by (λ pass. pass.times * touched (reads pass) granule layout) passes

-- the same of a layout of some leaves alone, whose cells have these numbers as leaves
abbrev pub part_cost : List Pass → ℕ → List ℕ → List (List Owner) → ℕ
part_cost passes granule leaves layout = sum_by (λ pass. pass.times * touched (λ cell. reads pass (slice_index_or leaves cell 0)) granule layout) passes

-- the leaves of cells
abbrev pub leaves_in : List Cell → List ℕ
leaves_in cells = map (λ cell. cell.leaf) cells
