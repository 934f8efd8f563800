-- the pieces so far, one of each byte
use Rattle.map_checks.proofs.Imports.{◌≡◌, length, take, flat_map}
use Rattle.map_checks.proofs.join_plan.joined.Given as goal

abbrev pub invariant-loop-byte : goal.invariant-loop-byte
invariant-loop-byte l = (l.pieces.items ≡ flat_map (λ byte. byte.pieces.items) (take l.byte-index l.bytes)) × (length l.pieces.items ≡ l.byte-index)
