-- the rules so far, and the bytes that they have
use Rattle.map_checks.proofs.Imports.{◌≡◌, length, take, byte_count, EachWith, IsJoined, bytes_at}
use Rattle.map_checks.proofs.join_plan.join_all.Given as goal

abbrev pub invariant-loop-cell : goal.invariant-loop-cell
invariant-loop-cell l =
    (length l.rules ≡ l.cell) × EachWith (λ cell rule. IsJoined (bytes_at l.cells l.bytes cell) rule) l.rules
    × (l.first ≡ byte_count (take l.cell l.cells))
