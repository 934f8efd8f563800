use Rattle.session.proofs.Lemmas.{rules, ◌∙◌, true, sym, ap, Rose, Table, open_view, opened_table, quiet, with_view, goes_then, left_of, world_of, sure, World, after_load, unread_after, told_first}
use Rattle.session.proofs.session.Session.open.Goals as goal

pub returns-in_err-view-clause-loads : goal.returns-in_err-view-clause-loads
unfolding open_view
returns-in_err-view-clause-loads g c = λ files given.
    let world = world_of c.args.self in
    let rose = Rose (g.H.Shelf.faults c.args.shelf.now) (g.H.Shelf.faults c.opened_view.new.shelf) in
    let table = opened_table world c.args.name c.args.file.now files in
    let next = λ (opened : Table). sure (quiet (with_view world c.args.name opened)) in
    after_load {A = Table} c.args.file.now (λ (view : Table). view) left_of table next rose c.in_err-view.field-0.0 c.from_residual.result (search rules)
    (c.in_err-view.ensures.loads files (told_first _ files (table true) next given))

pub returns-clause-loads : goal.returns-clause-loads
unfolding open_view
returns-clause-loads g c = λ files given.
    let world = world_of c.args.self in
    let next = λ (opened : Table). sure (quiet (with_view world c.args.name opened)) in
    goes_then _ next _ (c.in_ok-view.ensures.loads files (told_first _ files (opened_table world c.args.name c.args.file.now files true) next given)) ∙ ap (λ (w : World). sure (quiet w)) (sym c.in_ok-next.ensures.added)

pub returns-in_err-view-clause-unread : goal.returns-in_err-view-clause-unread
unfolding open_view
returns-in_err-view-clause-unread g c =
    let world = world_of c.args.self in
    let next = λ (opened : Table). sure (quiet (with_view world c.args.name opened)) in
    unread_after Table c.args.file.now (opened_table world c.args.name c.args.file.now) next c.in_err-view.field-0.0 c.from_residual.result (search rules) c.in_err-view.ensures.unread
