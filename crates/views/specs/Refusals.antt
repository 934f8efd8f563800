-- Why no view was made.
use Rattle.std.specs.Prelude.{ℕ, ◌≡◌, ◌*◌, ◌<◌, ◌^◌, ◌⊎◌, ⊤, List, Ok, Err, length, sum_by}
use Rattle.views.specs.Imports.{Fields, kinds_of, Term, leaf_cells, layout_by, accepted, IsTooBigFor, MakeMap, HeatFault}
use Rattle.map_checks.specs.declared.fault.MakeMap.TheVariants as map
use Rattle.instrument.specs.declared.heat.HeatFault.TheVariants as heat
use Rattle.views.specs.Tallies.{granules_for}
use Rattle.views.specs.declared.fault.MakeView.{MakeView}
use Rattle.views.specs.declared.fault.MakeView.TheVariants.{Bad, TooBig, NoMemory}

-- a base mapping has too many slots, all blobs have too many bytes, or there are more than 2^24 granules
abbrev pub IsOverLimits : Term → List ℕ → Fields → Type 0
IsOverLimits term extents fields =
    IsTooBigFor term extents fields (leaf_cells (kinds_of fields)) ⊎ (2 ^ 24 < granules_for term (layout_by term extents fields))

-- the expression is refused so, or is accepted and over a limit; want of memory is free
abbrev pub IsNoView : Term → List ℕ → Fields → MakeView → Type 0
IsNoView term extents fields (Bad bad) = accepted term fields (leaf_cells (kinds_of fields)) ≡ Err bad
IsNoView term extents fields TooBig = (accepted term fields (leaf_cells (kinds_of fields)) ≡ Ok tt) × IsOverLimits term extents fields
IsNoView term extents fields NoMemory = ⊤

-- the same of a view that may have so many bytes
abbrev pub IsNoViewWithin : ℕ → Term → List ℕ → Fields → MakeView → Type 0
IsNoViewWithin most term extents fields (Bad bad) = accepted term fields (leaf_cells (kinds_of fields)) ≡ Err bad
IsNoViewWithin most term extents fields TooBig =
    (accepted term fields (leaf_cells (kinds_of fields)) ≡ Ok tt) × (IsOverLimits term extents fields ⊎ (8 * most < sum_by length (layout_by term extents fields)))
IsNoViewWithin most term extents fields NoMemory = ⊤

-- the answer of a view for that of its mapping
abbrev pub made_view : MakeMap → MakeView
made_view (map.Bad bad) = Bad bad
made_view map.TooBig = TooBig
made_view map.NoMemory = NoMemory

-- and for that of its counts by granule
abbrev pub heated_view : HeatFault → MakeView
heated_view heat.TooBig = TooBig
heated_view heat.NoMemory = NoMemory
