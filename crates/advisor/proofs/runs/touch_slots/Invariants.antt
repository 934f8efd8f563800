use Rattle.advisor.proofs.Imports.{take, heat_counts, are_slots_touched, IsWarmed}
use Rattle.advisor.proofs.runs.touch_slots.Given as goal

abbrev pub invariant-loop-rule : goal.invariant-loop-rule
invariant-loop-rule l = IsWarmed (heat_counts l.initial.heat) (heat_counts l.heat) (are_slots_touched l.granule (take l.rule-index l.rules) l.start l.count)
