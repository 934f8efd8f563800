use Rattle.map_soa.proofs.Imports.{◌^◌, ◌≤◌, widths_of}
use Rattle.map_soa.proofs.Placed.{IsPlaced}
use Rattle.map_soa.proofs.arrays.lay_out.Given as goal

abbrev pub invariant-loop-cell : goal.invariant-loop-cell
invariant-loop-cell l = record {
  placed : IsPlaced l.form l.slots (widths_of l.cells) l.cell-index l.offsets.items l.end;
  small : l.end ≤ 2 ^ 31;
}
