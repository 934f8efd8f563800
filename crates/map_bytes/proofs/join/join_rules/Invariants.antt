-- those of the next so far
use Rattle.map_bytes.proofs.Imports.{◌≡◌, ◌++◌, take}
use Rattle.map_bytes.proofs.join.join_rules.Given as goal

abbrev pub invariant-loop-rule : goal.invariant-loop-rule
invariant-loop-rule l = l.rules.items ≡ l.initial.rules.items ++ take l.rule-index l.next.items
