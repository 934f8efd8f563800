use Rattle.subviews.proofs.Imports.{◌≡◌, take, flat_map, map, decimal_text, HasPut, comma_line, Read, row_accesses, leaf_count_of, after_log, rows_of, sub_table}
use Rattle.subviews.proofs.print.put_rows.Given as goal

abbrev pub invariant-loop-row : goal.invariant-loop-row
invariant-loop-row g l =
    HasPut g.K.Sink.taken g.K.Sink.faults l.initial.sink l.sink l.initial.buffer l.buffer (flat_map (λ row. comma_line (map decimal_text row)) (take l.row (sub_table l.initial.sub.window.now l.initial.sub.view.now.rows)))
    × (l.sub.view.now ≡ after_log l.initial.sub.view.now (flat_map (row_accesses Read (leaf_count_of l.initial.sub.view.now)) (take l.row (rows_of l.initial.sub.window.now))))
    × (l.sub.window.now ≡ l.initial.sub.window.now)
    × (l.sub.view.ghost_name ≡ l.initial.sub.view.ghost_name)
