-- the bytes so far, and those of them in reverse order
use Rattle.map_bytes.proofs.Imports.{◌≡◌, take, drop, reverse, flat_map, rule_bytes}
use Rattle.map_bytes.proofs.swap.swap_rules.Given as goal

abbrev pub invariant-loop-rule : goal.invariant-loop-rule
invariant-loop-rule l = l.bytes.items ≡ flat_map rule_bytes (take l.rule-index l.inner.items)

abbrev pub invariant-loop-at : goal.invariant-loop-at
invariant-loop-at l = l.swapped.items ≡ reverse (drop l.at l.bytes.items)
