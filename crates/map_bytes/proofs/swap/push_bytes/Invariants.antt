-- the bytes so far
use Rattle.map_bytes.proofs.Imports.{◌≡◌, ◌++◌, map, range_with_len, rule_byte}
use Rattle.map_bytes.proofs.swap.push_bytes.Given as goal

abbrev pub invariant-loop-byte : goal.invariant-loop-byte
invariant-loop-byte l = l.bytes.items ≡ l.initial.bytes.items ++ map (λ byte. rule_byte byte l.rule) (range_with_len 0 l.byte)
