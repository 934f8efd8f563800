-- no row so far has a next byte
use Rattle.actor_tasks.proofs.Imports.{◌≡◌, ◌+◌, ◌-◌, ◌≤◌, length, Job, AreRowsOf, left_in}
use Rattle.actor_tasks.proofs.rows.next_in_rows.Given as goal

abbrev pub invariant-loop-at : goal.invariant-loop-at
invariant-loop-at g l = record {
  few : l.first ≤ length (g.M.Mapping.cell_list l.mapping) + length l.sets;
  so_far : (job : Job) → AreRowsOf job (g.M.Mapping.layout l.mapping) (length (g.M.Mapping.cell_list l.mapping)) l.sets (g.R.AskingRows.asks_of l.rows) l.end
      → left_in job l.fn.row (l.end - l.fn.row) l.fn.done l.fn.from ≡ left_in job l.at (l.end - l.at) l.first l.begin;
}
