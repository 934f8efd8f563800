use Rattle.session.proofs.Lemmas.{rules, ◌≡◌, Err, refl, session_left}
use Rattle.session.proofs.session.Session.on_view.Goals as goal

pub returns-in_err-work_on-clause-answers : goal.returns-in_err-work_on-clause-answers
returns-in_err-work_on-clause-answers g c =
    let self = c.args.self in
    let is : c.from_residual.result ≡ Err c.in_err-work_on.field-0.0 = search rules in
    rw is (c.in_err-work_on.ensures.answers self.records self.mappings)

pub returns-in_err-work_on-clause-bound : goal.returns-in_err-work_on-clause-bound
returns-in_err-work_on-clause-bound g c = c.in_err-work_on.ensures.bound c.args.self.records c.args.self.mappings

pub returns-clause-answers : goal.returns-clause-answers
returns-clause-answers g c =
    let self = c.args.self in
    session_left g.K.Sink.taken g.K.Sink.faults c.args.out.now c.work_on.new.out self.records self.mappings c.work_on.new.views.items _ _ refl (c.in_ok-work_on.ensures.answers self.records self.mappings)

pub returns-clause-bound : goal.returns-clause-bound
returns-clause-bound g c = c.in_ok-work_on.ensures.bound c.args.self.records c.args.self.mappings
