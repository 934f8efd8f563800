use Rattle.map_aos.proofs.Imports.{◌≡◌, ◌^◌, ◌≤◌, length, take, widest}
use Rattle.map_aos.proofs.Parts.{IsPlaced}
use Rattle.map_aos.proofs.part.lay_out.Given as goal

abbrev pub invariant-loop-cell : goal.invariant-loop-cell
invariant-loop-cell l = record {
  placed : IsPlaced l.form (take l.cell-index l.cell-items) l.offsets.items l.end;
  small : l.end ≤ 2 ^ 31;
  widest : l.widest ≡ widest l.form (take l.cell-index l.cell-items);
  low : l.widest ≤ 64;
  some : 1 ≤ l.widest;
  count : length l.offsets.items ≡ length l.cells;
}
