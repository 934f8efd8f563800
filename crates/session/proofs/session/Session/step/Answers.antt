use Rattle.session.proofs.Lemmas.{◌∙◌, false, [], sym, ap, New, sentence_of, Line, open_view, load, step, command, new_of, world_of, no_file, file_read_by, steps_read, steps_shown, cause_shown, unread_read, unread_shown, untaken_quiet, untaken_shown}
use Rattle.session.proofs.session.Session.step.Goals as goal

pub returns-in-Load-clause-step : goal.returns-in-Load-clause-step
returns-in-Load-clause-step g c = λ files told.
    let world = world_of c.args.self in
    steps_read g.K.Sink.taken g.K.Sink.faults c.args.out.now world (sentence_of c.args.line.now) c.in-Load.file (load world (new_of c.of-new.result) c.in-Load.file) _ files _ c.load.result
    (ap (λ (line : Line). file_read_by (sentence_of line)) c.in-Load.is)
    (λ files unread. ap (λ (line : Line). command world (sentence_of line) files unread) c.in-Load.is ∙ ap (λ (new : New). load world new c.in-Load.file files unread) (sym c.of-new.ensures))
    (c.load.ensures.loads files) told

pub returns-in-Load-clause-unread : goal.returns-in-Load-clause-unread
returns-in-Load-clause-unread g c =
    let world = world_of c.args.self in
    unread_read world (sentence_of c.args.line.now) c.in-Load.file (load world (new_of c.of-new.result) c.in-Load.file) c.load.result
    (ap (λ (line : Line). file_read_by (sentence_of line)) c.in-Load.is)
    (λ files unread. ap (λ (line : Line). command world (sentence_of line) files unread) c.in-Load.is ∙ ap (λ (new : New). load world new c.in-Load.file files unread) (sym c.of-new.ensures))
    c.load.ensures.unread

pub returns-in-Load-clause-untaken : goal.returns-in-Load-clause-untaken
returns-in-Load-clause-untaken g c = untaken_quiet g.K.Sink.taken c.args.out.now c.load.result

pub returns-in-OpenFile-clause-step : goal.returns-in-OpenFile-clause-step
returns-in-OpenFile-clause-step g c = λ files told.
    let world = world_of c.args.self in
    steps_read g.K.Sink.taken g.K.Sink.faults c.args.out.now world (sentence_of c.args.line.now) c.in-OpenFile.file (open_view world c.in-OpenFile.name c.in-OpenFile.file) _ files _ c.open.result
    (ap (λ (line : Line). file_read_by (sentence_of line)) c.in-OpenFile.is)
    (λ files unread. ap (λ (line : Line). command world (sentence_of line) files unread) c.in-OpenFile.is)
    (c.open.ensures.loads files) told

pub returns-in-OpenFile-clause-unread : goal.returns-in-OpenFile-clause-unread
returns-in-OpenFile-clause-unread g c =
    let world = world_of c.args.self in
    unread_read world (sentence_of c.args.line.now) c.in-OpenFile.file (open_view world c.in-OpenFile.name c.in-OpenFile.file) c.open.result
    (ap (λ (line : Line). file_read_by (sentence_of line)) c.in-OpenFile.is)
    (λ files unread. ap (λ (line : Line). command world (sentence_of line) files unread) c.in-OpenFile.is)
    c.open.ensures.unread

pub returns-in-OpenFile-clause-untaken : goal.returns-in-OpenFile-clause-untaken
returns-in-OpenFile-clause-untaken g c = untaken_quiet g.K.Sink.taken c.args.out.now c.open.result

pub returns-in_default-clause-step : goal.returns-in_default-clause-step
returns-in_default-clause-step g c = λ files told.
    steps_shown g.K.Sink.taken g.K.Sink.faults c.args.out.now c.command.new.out (world_of c.args.self) (sentence_of c.args.line.now) (file_read_by (sentence_of c.args.line.now)) files _ c.command.result (no_file c.args.line.now c.in_default.not-Load c.in_default.not-OpenFile) c.command.ensures.answers

pub returns-in_default-clause-cause : goal.returns-in_default-clause-cause
returns-in_default-clause-cause g c =
    cause_shown g.K.Sink.taken g.K.Sink.faults c.args.out.now c.command.new.out _ (file_read_by (sentence_of c.args.line.now)) (g.H.Shelf.files c.args.shelf.now) (g.H.Shelf.faults c.args.shelf.now) c.command.result c.command.ensures.answers

pub returns-in_default-clause-unread : goal.returns-in_default-clause-unread
returns-in_default-clause-unread g c = unread_shown g.K.Sink.taken g.K.Sink.faults c.args.out.now c.command.new.out _ _ (step (world_of c.args.self) (sentence_of c.args.line.now)) c.command.result c.command.ensures.answers

pub returns-in_default-clause-untaken : goal.returns-in_default-clause-untaken
returns-in_default-clause-untaken g c = untaken_shown g.K.Sink.taken g.K.Sink.faults c.args.out.now c.command.new.out _ c.command.result c.command.ensures.answers
