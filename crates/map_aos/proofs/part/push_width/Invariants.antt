use Rattle.map_aos.proofs.Imports.{◌≡◌, ◌++◌, ◌==◌, filter, take}
use Rattle.map_aos.proofs.part.push_width.Given as goal

abbrev pub invariant-loop-cell : goal.invariant-loop-cell
invariant-loop-cell l = l.order.items ≡ l.initial.order.items ++ filter (λ cell. cell.1 == l.width) (take l.cell-index l.cells)
