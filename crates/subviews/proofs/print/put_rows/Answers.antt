use Rattle.subviews.proofs.Lemmas.{rules, arith, ◌≡◌, ◌<◌, ◌∙◌, ℤ, List, [], IsErr, length, map, flat_map, take, ap, sym, refl, Contains-get_or, decimal_text, Puts-loop_err, comma_line, Read, row_accesses, after_log-none, after_log-append, leaf_count_of, after_log, rows_of, outer_row, sub_table, logs_front, sub_row, sub_count, row_below}
use Rattle.csv_rows.proofs.Commas.{part_more}
use Rattle.subviews.proofs.print.put_rows.Goals as goal

pub loop-row-init : goal.loop-row-init
loop-row-init g c = (search rules, sym (after_log-none c.args.sub.now.view.now), refl, refl)

pub put_row-requires : goal.put_row-requires
put_row-requires g c =
    let window = c.args.sub.now.window.now in
    let view = c.args.sub.now.view.now in
    let small : c.loop-row.row < length (rows_of window) = omega (arith, c.count-row-end.ensures, c.loop-row-test.true) in
    let log = flat_map (row_accesses Read (leaf_count_of view)) (take c.loop-row.row (rows_of window)) in
    let below = row_below window view c.loop-row.sub.view.now log (outer_row window c.loop-row.row) c.args.sub.now.tied c.laws_of_table.ensures.table c.loop-row.invariant.1 (Contains-get_or (rows_of window) c.loop-row.row 0 small) in
    let outer : c.outer-outer.result ≡ outer_row window c.loop-row.row = rw c.loop-row.invariant.2 at c.outer-outer.ensures.row in
    omega (arith, below, outer)

pub returns-in_err-put_row-clause-puts : goal.returns-in_err-put_row-clause-puts
returns-in_err-put_row-clause-puts g c =
    let window = c.args.sub.now.window.now in
    let view = c.args.sub.now.view.now in
    let err : IsErr c.from_residual.result = search rules in
    let small : c.loop-row.row < length (rows_of window) = omega (arith, c.count-row-end.ensures, c.loop-row-test.true) in
    let outer : c.outer-outer.result ≡ outer_row window c.loop-row.row = rw c.loop-row.invariant.2 at c.outer-outer.ensures.row in
    let stop = rw (c.loop-row.invariant.1, outer, ← sub_row window view.rows c.loop-row.row small) at c.in_err-put_row.ensures.puts in
    Puts-loop_err c.from_residual.result (λ (row : List ℤ). comma_line (map decimal_text row)) (sub_table window view.rows) c.loop-row.row [] (omega (arith, small, sub_count window view.rows)) err c.loop-row.invariant.0 stop

pub loop-row-preserved : goal.loop-row-preserved
loop-row-preserved g c =
    let window = c.args.sub.now.window.now in
    let view = c.args.sub.now.view.now in
    let small : c.loop-row.row < length (rows_of window) = omega (arith, c.count-row-end.ensures, c.loop-row-test.true) in
    let outer : c.outer-outer.result ≡ outer_row window c.loop-row.row = rw c.loop-row.invariant.2 at c.outer-outer.ensures.row in
    let step = rw (c.loop-row.invariant.1, outer, ← sub_row window view.rows c.loop-row.row small) at c.in_ok-put_row.ensures.puts in
    let read = rw (c.loop-row.invariant.1, outer) at c.in_ok-put_row.ensures.read in
    let leaves = leaf_count_of view in (
      part_more (λ (row : List ℤ). comma_line (map decimal_text row)) (sub_table window view.rows) c.loop-row.row [] (omega (arith, small, sub_count window view.rows)) c.loop-row.invariant.0 step,
      read ∙ after_log-append view (flat_map (row_accesses Read leaves) (take c.loop-row.row (rows_of window))) (row_accesses Read leaves (outer_row window c.loop-row.row))
          ∙ ap (after_log view) (logs_front (row_accesses Read leaves) (rows_of window) c.loop-row.row 0 small),
      search rules,
      search rules,
    )
