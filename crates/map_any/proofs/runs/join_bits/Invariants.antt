-- the runs so far, with the last one before the runs of the bits that are left, are the runs of all bits
use Rattle.map_any.proofs.Imports.{◌≡◌, ◌≤◌, ◌++◌, drop, runs_along, joined_run}
use Rattle.map_any.proofs.runs.join_bits.Given as goal

abbrev pub invariant-loop-bit : goal.invariant-loop-bit
invariant-loop-bit l = record {
  few : l.run.bits ≤ l.bit;
  same : l.runs ++ joined_run l.run (runs_along l.blob l.bit (drop l.bit l.owners)) ≡ runs_along l.blob 0 l.owners;
}
