use Rattle.map_bits.proofs.Imports.{◌≡◌, take, narrow_holds}
use Rattle.map_bits.proofs.narrow.narrow_holds.Given as goal

abbrev pub invariant-loop-i : goal.invariant-loop-i
invariant-loop-i l = l.holds.items ≡ narrow_holds (take l.i l.widths) (take l.i l.cells)
