-- the bytes so far
use Rattle.map_checks.proofs.Imports.{◌≡◌, ◌++◌, replicate}
use Rattle.map_checks.proofs.inner_cells.push_bytes.Given as goal

abbrev pub invariant-loop : goal.invariant-loop
invariant-loop l = l.bytes ≡ l.initial.bytes ++ replicate l.counter l.byte
