use Rattle.map_bits.proofs.Imports.{◌≡◌, ◌^◌, ◌≤◌, map, take, range_with_len, sum, widths_in}
use Rattle.map_bits.proofs.part.lay_out.Given as goal

abbrev pub invariant-loop-hold : goal.invariant-loop-hold
invariant-loop-hold l = record {
  begins : l.offsets.items ≡ map (λ cell. sum (take cell (widths_in l.holds))) (range_with_len 0 l.hold-index);
  ends : l.end ≡ sum (take l.hold-index (widths_in l.holds));
  small : l.end ≤ 2 ^ 31;
}
