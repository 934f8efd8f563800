use Rattle.session.proofs.Lemmas.{Ok, refl, subst, New, view, Gives, left_of, world_of, line_gives}
use Rattle.session.proofs.session.Session.command.Goals as goal

pub returns-in-Blank-clause-answers : goal.returns-in-Blank-clause-answers
returns-in-Blank-clause-answers g c = line_gives g.K.Sink.taken g.K.Sink.faults c.args.out.now (world_of c.args.self) c.args.line.now _ (Ok c.args.self) c.in-Blank.is refl

pub returns-in-Define-clause-answers : goal.returns-in-Define-clause-answers
returns-in-Define-clause-answers g c = line_gives g.K.Sink.taken g.K.Sink.faults c.args.out.now (world_of c.args.self) c.args.line.now _ c.define.result c.in-Define.is c.define.ensures

pub returns-in-Mapping-clause-answers : goal.returns-in-Mapping-clause-answers
returns-in-Mapping-clause-answers g c = line_gives g.K.Sink.taken g.K.Sink.faults c.args.out.now (world_of c.args.self) c.args.line.now _ c.mapping.result c.in-Mapping.is c.mapping.ensures

pub returns-in-View-clause-answers : goal.returns-in-View-clause-answers
returns-in-View-clause-answers g c =
    line_gives g.K.Sink.taken g.K.Sink.faults c.args.out.now (world_of c.args.self) c.args.line.now _ c.view.result c.in-View.is
    (subst (λ (new : New). Gives left_of c.view.result (view (world_of c.args.self) new)) c.of.ensures c.view.ensures)

pub returns-in-Copy-clause-answers : goal.returns-in-Copy-clause-answers
returns-in-Copy-clause-answers g c = line_gives g.K.Sink.taken g.K.Sink.faults c.args.out.now (world_of c.args.self) c.args.line.now _ c.copy.result c.in-Copy.is c.copy.ensures.copied

pub returns-in-Relayout-clause-answers : goal.returns-in-Relayout-clause-answers
returns-in-Relayout-clause-answers g c = line_gives g.K.Sink.taken g.K.Sink.faults c.args.out.now (world_of c.args.self) c.args.line.now _ c.relayout.result c.in-Relayout.is c.relayout.ensures.laid

pub returns-in-Drop-clause-answers : goal.returns-in-Drop-clause-answers
returns-in-Drop-clause-answers g c = line_gives g.K.Sink.taken g.K.Sink.faults c.args.out.now (world_of c.args.self) c.args.line.now _ c.drop_view.result c.in-Drop.is c.drop_view.ensures
