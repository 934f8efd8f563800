use Rattle.map_aos.proofs.Imports.{◌≡◌, take, cells_of, widths_of}
use Rattle.map_aos.proofs.part.numbered.Given as goal

abbrev pub invariant-loop-number : goal.invariant-loop-number
invariant-loop-number l = l.order.items ≡ take l.number (cells_of (widths_of l.cells))
