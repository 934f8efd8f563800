use Rattle.views.proofs.Lemmas.{arith, fits_here, put_kept, put_seen, rows_there, leaves_there}
use Rattle.views.proofs.view.View.put_near.Goals as goal

pub put_rows-requires-clause-leaf_in : goal.put_rows-requires-clause-leaf_in
put_rows-requires-clause-leaf_in c = omega (arith, c.requires.leaf_in, leaves_there c.self.invariant.1 c.self.view_is c.self.invariant.0)

pub put_rows-requires-clause-rows_in : goal.put_rows-requires-clause-rows_in
put_rows-requires-clause-rows_in c = omega (arith, c.requires.rows_in, rows_there c.self.invariant.1 c.self.view_is c.self.invariant.0)

pub put_rows-requires-clause-held : goal.put_rows-requires-clause-held
put_rows-requires-clause-held c = λ k l. (fits_here c.self.invariant.1 c.self.view_is c.self.invariant.0 c.args.leaf c.args.first 0 c.args.lows.now c.requires.leaf_in c.requires.fits k l).held

pub invariant_of-self : goal.invariant_of-self
invariant_of-self c = (
  c.self.invariant.0,
  put_kept c.self.invariant.1 c.self.view_is c.self.invariant.0 c.args.leaf c.args.first c.put_rows.result c.args.lows.now c.requires.leaf_in c.requires.fits c.put_rows.ensures.still_laid c.put_rows.ensures.table,
  c.self.invariant.2,
)

pub returns-clause-stored : goal.returns-clause-stored
returns-clause-stored c =
    put_seen c.self.invariant.1 c.self.view_is c.self.invariant.0 c.args.leaf c.args.first c.put_rows.result c.args.lows.now c.requires.leaf_in c.requires.fits c.put_rows.ensures.still_laid c.put_rows.ensures.table
    c.self.invariant.2 c.put_rows.ensures.uncounted
