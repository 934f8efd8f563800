use Rattle.advisor.proofs.Imports.{◌≤◌, ◌-◌, heat_counts, are_rows_touched, IsWarmed}
use Rattle.advisor.proofs.runs.touch_rows.Given as goal

abbrev pub invariant-loop-slot : goal.invariant-loop-slot
invariant-loop-slot l = record {
  low : l.slot ≤ l.slots;
  warmed : IsWarmed (heat_counts l.initial.heat) (heat_counts l.heat) (are_rows_touched l.granule l.rule.order l.extents l.rule.pieces.items 0 l.slot);
}

abbrev pub decreases-loop-slot : goal.decreases-loop-slot
decreases-loop-slot l = l.slots - l.slot
