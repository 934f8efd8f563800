use Rattle.row_updates.proofs.Imports.{◌≡◌, ℕ, ◌+◌, ◌≤◌, bound_term, Table, IsCounted}
use Rattle.row_updates.proofs.count.count_between.Given as goal

abbrev pub invariant-loop-row : goal.invariant-loop-row
invariant-loop-row g l = record {
  still : l.view ≡ record l.initial.view { tally = l.view.tally };
  few : l.first + l.count ≤ l.row;
  counted : (old : Table) (before : ℕ) → IsCounted old (bound_term l.filter) l.initial.view l.first before → IsCounted old (bound_term l.filter) l.view l.row (before + l.count);
}
