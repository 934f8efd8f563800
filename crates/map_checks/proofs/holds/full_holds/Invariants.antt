-- the holds so far
use Rattle.map_checks.proofs.Imports.{◌≡◌, take, full_holds}
use Rattle.map_checks.proofs.holds.full_holds.Given as goal

abbrev pub invariant-loop-cell : goal.invariant-loop-cell
invariant-loop-cell l = l.holds ≡ full_holds (take l.cell-index l.cells)
