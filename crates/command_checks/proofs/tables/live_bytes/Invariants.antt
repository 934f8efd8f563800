use Rattle.command_checks.proofs.Imports.{◌≡◌, ◌*◌, ◌≤◌, ◌^◌, take, map, live_bits, view_of}
use Rattle.command_checks.proofs.tables.live_bytes.Given as goal

abbrev pub invariant-loop-entry : goal.invariant-loop-entry
invariant-loop-entry l = record {
  sum : 8 * l.bytes ≡ live_bits (take l.entry-index (map view_of l.views));
  few : l.bytes ≤ l.entry-index * 2 ^ 28;
}
