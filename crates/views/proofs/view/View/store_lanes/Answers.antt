use Rattle.views.proofs.Lemmas.{◌≡◌, List, [], ℤ, ◌∷◌, map, ap, refl, arith, to_z, of_z, w64, length-map, low_64, common_steps, first_lanes}
use Rattle.views.proofs.view.View.store_lanes.Goals as goal

-- the lanes of a vector, each by its bits
lows : (values : List ℤ) → map (to_z w64) (map (of_z w64) values) ≡ map low_64 values
lows [] = refl
lows (value ∷ values) = ap (λ (rest : List ℤ). low_64 value ∷ rest) (lows values)

pub returns-clause-taken : goal.returns-clause-taken
returns-clause-taken g c = grind (arith, common_steps, lows)

pub returns-clause-stored : goal.returns-clause-stored
returns-clause-stored g c = grind (arith, common_steps, first_lanes, to_z, of_z, lows, length-map)

pub returns-clause-named : goal.returns-clause-named
returns-clause-named g c = grind (arith, common_steps, lows)
