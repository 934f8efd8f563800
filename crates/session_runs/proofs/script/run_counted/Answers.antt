use Rattle.session_runs.proofs.Imports.{◌≡◌, ◌<◌, ◌≤◌, ℕ, List, length, ap, ◌∙◌, arith, Rose, lines_in, script_lines}
use Rattle.session_runs.proofs.Runs.{run_long, run_short}
use Rattle.session_runs.proofs.script.run_counted.Goals as goal

pub returns-then-line_count-gt-SCRIPT_LINES-clause-run : goal.returns-then-line_count-gt-SCRIPT_LINES-clause-run
returns-then-line_count-gt-SCRIPT_LINES-clause-run g c = λ files told.
    let counted : c.line_count.result ≡ length (script_lines c.args.script.now) = c.line_count.ensures ∙ ap (λ (bytes : List ℕ). length (lines_in bytes)) c.without_mark-lines.ensures in
    let long : 65536 < length (script_lines c.args.script.now) = omega (arith, counted, c.if-line_count-gt-SCRIPT_LINES.true) in
    rw c.ended.ensures (run_long g.K.Sink.taken g.K.Sink.faults c.args.sink.now c.write_fault.new.sink c.args.script.now files _ c.write_fault.result long c.write_fault.ensures)

pub returns-clause-run : goal.returns-clause-run
returns-clause-run g c = λ files told.
    let counted : c.line_count.result ≡ length (script_lines c.args.script.now) = c.line_count.ensures ∙ ap (λ (bytes : List ℕ). length (lines_in bytes)) c.without_mark-lines.ensures in
    let short : length (script_lines c.args.script.now) ≤ 65536 = omega (arith, counted, c.if-line_count-gt-SCRIPT_LINES.false) in
    run_short g.K.Sink.taken c.args.sink.now c.run_headed.new.sink c.args.script.now files (Rose (g.H.Shelf.faults c.args.shelf.now) (g.H.Shelf.faults c.run_headed.new.shelf)) c.run_headed.result short (rw c.without_mark-lines.ensures at (c.run_headed.ensures.run files told))
