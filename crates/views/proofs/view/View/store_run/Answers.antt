use Rattle.views.proofs.Lemmas.{◌≡◌, ◌∙◌, ℤ, List, None, true, length, sym, ap, arith, column_writes, with_column, run_fault, told_lane, stored_count, with_run, raised_same, without_number, answer_of, after_stores, LaneFault, take_all, Option, none_refused, map_same}
use Rattle.views.proofs.view.View.store_run.Goals as goal
use Rattle.views.proofs.view.View.store_run.Goals.{After-takes_run}
use Rattle.views.proofs.view.View.store_run.Given.{Over}

-- none is refused
none : (g : Over) (c : After-takes_run g) → c.takes_run.result ≡ true → run_fault c.args.leaf c.args.values.now c.args.self.now ≡ None
none g c taken = none_refused (answer_of c.args.self.now) c.args.leaf 0 c.args.values.now (λ k l. ap without_number (c.takes_run.ensures.taken taken k l))

pub returns-then-takes_run-clause-named : goal.returns-then-takes_run-clause-named
returns-then-takes_run-clause-named g c = sym (ap told_lane (none g (goal.at.returns-then-takes_run-clause-named g c).After-takes_run c.if-takes_run.true))

pub returns-then-takes_run-clause-stored : goal.returns-then-takes_run-clause-stored
returns-then-takes_run-clause-stored g c =
    let old = c.args.self.now in
    let leaf = c.args.leaf in
    let first = c.args.first in
    let values = c.args.values.now in
    let fit = c.takes_run.ensures.fits c.if-takes_run.true in
    let taken = c.takes_run.ensures.taken c.if-takes_run.true in
    let Stored : List ℤ → _ = λ vs. after_stores old (with_column leaf first vs old.rows) (column_writes leaf first (length values)) in
    c.put_lows.ensures
    ∙ ap Stored
    (grind (arith, map_same, raised_same, take_all))
    ∙ sym (ap (λ (fault : Option LaneFault). with_run leaf first values (stored_count (length values) fault) old) (none g (goal.at.returns-then-takes_run-clause-stored g c).After-takes_run c.if-takes_run.true))
