use Rattle.session_runs.proofs.Imports.{true, Rose, sentence_of, file_read_by, told_any, world_of, Session, step}
use Rattle.session_runs.proofs.Texts.{ends_as, cause_as, reads_some}
use Rattle.session_runs.proofs.lines.do_command.Goals as goal

pub line_end-requires : goal.line_end-requires
line_end-requires g c =
    let sentence = sentence_of c.args.line.now in
    reads_some Session (file_read_by sentence) (step (world_of c.args.session) sentence) c.in-Err.fault c.in-Err.ensures.unread

pub returns-in-Err-clause-step : goal.returns-in-Err-clause-step
returns-in-Err-clause-step g c = λ files world told stands.
    let sentence = sentence_of c.args.line.now in
    ends_as g.K.Sink.taken g.K.Sink.faults c.args.sink.now c.step.new.out (file_read_by sentence) (step world sentence files) (Rose (g.H.Shelf.faults c.args.shelf.now) (g.H.Shelf.faults c.step.new.shelf)) c.in-Err.fault c.line_end.result c.line_end.ensures
    (rw (← stands) (c.in-Err.ensures.step files (told_any _ (step (world_of c.args.session) sentence files true) files told)))

pub returns-in-Err-clause-cause : goal.returns-in-Err-clause-cause
returns-in-Err-clause-cause g c =
    let sentence = sentence_of c.args.line.now in
    cause_as (file_read_by sentence) (g.H.Shelf.files c.args.shelf.now) (g.H.Shelf.faults c.args.shelf.now) (g.H.Shelf.faults c.step.new.shelf) (g.K.Sink.faults c.args.sink.now) (g.K.Sink.faults c.step.new.out) c.in-Err.fault c.line_end.result
    (reads_some Session (file_read_by sentence) (step (world_of c.args.session) sentence) c.in-Err.fault c.in-Err.ensures.unread) c.line_end.ensures c.in-Err.ensures.cause
