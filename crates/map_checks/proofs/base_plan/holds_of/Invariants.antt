-- the holds so far
use Rattle.map_checks.proofs.Imports.{◌≡◌, take}
use Rattle.map_checks.proofs.base_plan.holds_of.Given as goal

abbrev pub invariant-loop-cell : goal.invariant-loop-cell
invariant-loop-cell g l = l.holds ≡ take l.cell (g.M.Mapping.hold_list l.mapping)
