-- the rules so far
use Rattle.map_split.proofs.Imports.{◌≡◌, map, take, shifted_rule}
use Rattle.map_split.proofs.shift.shift_rules.Given as goal

abbrev pub invariant-loop-rule : goal.invariant-loop-rule
invariant-loop-rule l = l.rules.items ≡ map (shifted_rule l.by) (take l.rule-index l.inner.items)
