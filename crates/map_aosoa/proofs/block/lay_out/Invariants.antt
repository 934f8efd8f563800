use Rattle.map_aosoa.proofs.Imports.{◌≡◌, ℕ, ◌*◌, ◌^◌, ◌<◌, ◌≤◌, length, get_or, take, sum, widths_of}
use Rattle.map_aosoa.proofs.block.lay_out.Given as goal

abbrev pub invariant-loop-cell : goal.invariant-loop-cell
invariant-loop-cell l = record {
  count : length l.offsets.items ≡ l.cell-index;
  begins : (k : ℕ) → k < l.cell-index → get_or l.offsets.items k 0 ≡ l.lanes * sum (take k (widths_of l.cells));
  ends : l.end ≡ l.lanes * sum (take l.cell-index (widths_of l.cells));
  small : l.end ≤ 2 ^ 31;
}
