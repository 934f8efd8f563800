-- the cells so far
use Rattle.map_checks.proofs.Imports.{◌≡◌, take, changed}
use Rattle.map_checks.proofs.inner_cells.changed_cells.Given as goal

abbrev pub invariant-loop-cell : goal.invariant-loop-cell
invariant-loop-cell l = l.changed ≡ changed l.from l.to (take l.cell-index l.cells)
