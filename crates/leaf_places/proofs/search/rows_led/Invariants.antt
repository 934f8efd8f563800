-- the rows so far
use Rattle.leaf_places.specs.Inner.Search.{place_in, StandAlong}
use Rattle.leaf_places.proofs.search.rows_led.Given as goal

abbrev pub invariant-loop-row : goal.invariant-loop-row
invariant-loop-row g l = StandAlong (g.M.Mapping.layout l.mapping) l.sought l.row l.groups.blob (place_in l.groups)
