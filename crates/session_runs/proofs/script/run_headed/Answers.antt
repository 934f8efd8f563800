use Rattle.session_runs.proofs.Imports.{◌≡◌, None, Some, option_map, ap, sym, ◌∙◌, Rose, lines_in, version_line}
use Rattle.session_runs.proofs.Runs.{run_plain, run_behind_head, run_unknown}
use Rattle.session_runs.proofs.script.run_headed.Goals as goal

pub returns-in_default-clause-run : goal.returns-in_default-clause-run
returns-in_default-clause-run g c = λ files told.
    let none : version_line (lines_in c.args.lines.now) ≡ None = sym c.version_line.ensures.is ∙ ap (option_map (λ head. (head.before, head.number))) c.in_default.is in
    run_plain g.K.Sink.taken c.args.sink.now c.run_behind.new.sink (lines_in c.args.lines.now) files (Rose (g.H.Shelf.faults c.args.shelf.now) (g.H.Shelf.faults c.run_behind.new.shelf)) c.run_behind.result none (c.run_behind.ensures.run files told)

pub returns-in-Some-version_numbered-clause-run : goal.returns-in-Some-version_numbered-clause-run
returns-in-Some-version_numbered-clause-run g c = λ files told.
    let head = c.in-Some.head in
    let is : version_line (lines_in c.args.lines.now) ≡ Some (head.before, head.number) = sym c.version_line.ensures.is ∙ ap (option_map (λ head. (head.before, head.number))) c.in-Some.is in
    let ran = c.run_behind-in-Some-version_numbered in
    run_behind_head g.K.Sink.taken c.args.sink.now ran.new.sink (lines_in c.args.lines.now) files (Rose (g.H.Shelf.faults c.args.shelf.now) (g.H.Shelf.faults ran.new.shelf)) ran.result (head.before, head.number) c.in-Some-version_numbered.version is (sym c.version_numbered.ensures ∙ c.in-Some-version_numbered.is) (rw c.in-Some.ensures.rest at (ran.ensures.run files told))

pub returns-in-None-clause-run : goal.returns-in-None-clause-run
returns-in-None-clause-run g c = λ files told.
    let head = c.in-Some.head in
    let is : version_line (lines_in c.args.lines.now) ≡ Some (head.before, head.number) = sym c.version_line.ensures.is ∙ ap (option_map (λ head. (head.before, head.number))) c.in-Some.is in
    rw c.ended.ensures (run_unknown g.K.Sink.taken g.K.Sink.faults c.args.sink.now c.write_fault.new.sink (lines_in c.args.lines.now) files _ (head.before, head.number) c.write_fault.result is (sym c.version_numbered.ensures ∙ c.in-None.is) c.write_fault.ensures)
