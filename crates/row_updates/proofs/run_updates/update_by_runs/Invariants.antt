use Rattle.row_updates.proofs.Imports.{◌≡◌, ◌≤◌, ◌-◌, length, map, filter_term, setting_of, IsIdle, AreUpdated}
use Rattle.row_updates.proofs.run_updates.update_by_runs.Given as goal

abbrev pub decreases-loop-first : goal.decreases-loop-first
decreases-loop-first g l = l.count - l.first

abbrev pub invariant-loop-first : goal.invariant-loop-first
invariant-loop-first g l = record {
  few : l.first ≤ l.count;
  all : l.count ≡ length l.initial.view.rows;
  idle : IsIdle l.view;
  updated : AreUpdated l.initial.view (filter_term l.filter) (map setting_of l.sets) l.view l.first;
}
