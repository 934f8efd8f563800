-- the bytes so far
use Rattle.map_checks.proofs.Imports.{◌≡◌, take, byte_cells_of}
use Rattle.map_checks.proofs.inner_cells.bytes_cells.Given as goal

abbrev pub invariant-loop-cell : goal.invariant-loop-cell
invariant-loop-cell l = l.bytes ≡ byte_cells_of (take l.cell-index l.cells)
