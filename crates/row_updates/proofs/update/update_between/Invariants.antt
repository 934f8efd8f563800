use Rattle.row_updates.proofs.Imports.{◌≡◌, map, length, filter_term, setting_of, AreUpdated, Table}
use Rattle.row_updates.proofs.update.update_between.Given as goal

abbrev pub invariant-loop-row : goal.invariant-loop-row
invariant-loop-row g l =
    let sets = map setting_of l.sets in
    record {
      still : l.view ≡ record l.initial.view { rows = l.view.rows; tally = l.view.tally };
      count : length l.view.rows ≡ length l.initial.view.rows;
      updated : (old : Table) → AreUpdated old (filter_term l.filter) sets l.initial.view l.first → AreUpdated old (filter_term l.filter) sets l.view l.row;
    }
