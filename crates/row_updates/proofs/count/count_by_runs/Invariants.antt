use Rattle.row_updates.proofs.Imports.{◌≡◌, ◌≤◌, ◌-◌, length, bound_term, IsIdle, IsCounted}
use Rattle.row_updates.proofs.count.count_by_runs.Given as goal

abbrev pub decreases-loop-first : goal.decreases-loop-first
decreases-loop-first g l = l.count - l.first

abbrev pub invariant-loop-first : goal.invariant-loop-first
invariant-loop-first g l = record {
  few : l.first ≤ l.count;
  all : l.count ≡ length l.initial.view.rows;
  idle : IsIdle l.view;
  counted : IsCounted l.initial.view (bound_term l.filter) l.view l.first l.passing;
}
