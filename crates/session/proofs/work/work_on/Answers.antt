use Rattle.session.proofs.Lemmas.{rules, map, refl, view_of, IsAt, ViewEntry, GivesUp-then, on_view, known, AreLeft, world_in, gave_up, view_worked}
use Rattle.session.proofs.work.work_on.Goals as goal

pub returns-in_err-place-clause-answers : goal.returns-in_err-place-clause-answers
unfolding on_view
returns-in_err-place-clause-answers g c = λ records mappings.
    let items = c.args.views.now.items in
    let fault = c.in_err-place.field-0.0 in
    let unknown = rw c.as_slice.ensures.value at c.in_err-place.ensures.unknown in
    gave_up (AreLeft records mappings items) g.K.Sink.taken g.K.Sink.faults c.args.out.now (on_view (world_in records mappings items) c.args.name (g.W.Work.does c.args.work.now)) fault c.from_residual.result (search rules)
    (GivesUp-then (known c.args.name (map view_of items)) _ fault unknown)

pub returns-clause-answers : goal.returns-clause-answers
returns-clause-answers g c = λ records mappings.
    let items = c.args.views.now.items in
    let at : IsAt view_of c.args.name items c.in_ok-place.place = rw c.as_slice.ensures.value at c.in_ok-place.ensures.at in
    let entry = c.index_mut.result.now in
    let changed : ViewEntry = record { name = entry.name; view = c.run.new.view } in
    view_worked g.K.Sink.taken g.K.Sink.faults c.args.out.now c.run.new.out records mappings items c.args.name c.in_ok-place.place entry changed (g.W.Work.does c.args.work.now) c.run.result at c.index_mut.ensures.value refl c.run.ensures.answers
