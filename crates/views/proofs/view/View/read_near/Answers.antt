use Rattle.views.proofs.Lemmas.{◌+◌, ap, ◌∙◌, arith, low_64, sign_seen, idle_seen, rows_there, leaves_there, run_read}
use Rattle.views.proofs.view.View.read_near.Goals as goal

pub read_rows-requires-clause-leaf_in : goal.read_rows-requires-clause-leaf_in
read_rows-requires-clause-leaf_in c = omega (arith, c.requires.leaf_in, leaves_there c.self.invariant.1 c.self.view_is c.self.invariant.0)

pub read_rows-requires-clause-rows_in : goal.read_rows-requires-clause-rows_in
read_rows-requires-clause-rows_in c = omega (arith, c.requires.rows_in, rows_there c.self.invariant.1 c.self.view_is c.self.invariant.0)

pub returns-clause-values : goal.returns-clause-values
returns-clause-values c = λ done.
    run_read c.args.leaf c.args.first c.args.self.now.rows c.args.values.now c.read_rows.new.values c.read_rows.ensures.count c.requires.rows_in (λ k l.
    c.read_rows.ensures.values done k l
    ∙ ap low_64
    (sign_seen c.self.invariant.1 c.self.view_is c.self.invariant.0 c.as_slice.ensures.value (c.args.first + k) c.args.leaf (omega (arith, l, c.requires.rows_in)) c.requires.leaf_in (c.read_rows.ensures.sign done)))

pub returns-clause-same : goal.returns-clause-same
returns-clause-same c = λ done. idle_seen c.self.invariant.1 c.self.view_is c.self.invariant.0 (c.read_rows.ensures.uncounted done) c.self.invariant.2
