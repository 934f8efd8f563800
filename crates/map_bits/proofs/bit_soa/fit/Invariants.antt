use Rattle.map_bits.proofs.Imports.{◌≡◌, ◌^◌, ◌≤◌, length, sum_by, take, widths_in, bit_soa}
use Rattle.map_bits.proofs.bit_soa.fit.Given as goal

abbrev pub invariant-loop-hold : goal.invariant-loop-hold
invariant-loop-hold l = record {
  sum : l.bits ≡ sum_by length (take l.hold-index (bit_soa l.slots (widths_in l.holds)));
  small : l.bits ≤ 2 ^ 31;
}
