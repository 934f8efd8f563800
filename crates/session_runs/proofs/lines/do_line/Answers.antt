use Rattle.session_runs.proofs.Imports.{◌≤◌, length, arith, ending_of, Stands, steps_same}
use Rattle.session_runs.proofs.Texts.{text_steps}
use Rattle.session_runs.proofs.lines.do_line.Goals as goal

pub returns-in-Ok-clause-step : goal.returns-in-Ok-clause-step
returns-in-Ok-clause-step g c = λ files world told stands.
    let short : length c.args.text.now ≤ 4096 = omega (arith, c.if-text-gt-MAX_LINE_BYTES.false) in
    steps_same ending_of Stands g.K.Sink.taken g.K.Sink.faults _ _ _ _ _ _ (λ unread. text_steps c.args.version files world c.args.text.now _ unread short c.in-Ok.ensures.told.0 c.in-Ok.ensures.told.1) (c.do_command-done.ensures.step files world told stands)
