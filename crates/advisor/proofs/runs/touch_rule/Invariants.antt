use Rattle.advisor.proofs.Imports.{◌≤◌, ◌-◌, heat_counts, is_run_touched, IsWarmed}
use Rattle.advisor.proofs.runs.touch_rule.Given as goal

abbrev pub invariant-loop-done : goal.invariant-loop-done
invariant-loop-done l = record {
  low : l.done ≤ l.count;
  warmed : IsWarmed (heat_counts l.initial.heat) (heat_counts l.heat) (is_run_touched l.granule l.rule l.start l.done);
}

abbrev pub decreases-loop-done : goal.decreases-loop-done
decreases-loop-done l = l.count - l.done
