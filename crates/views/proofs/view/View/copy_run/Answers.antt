use Rattle.views.proofs.Lemmas.{◌≡◌, length, arith, length-map, run_length, common_steps, copied_fits}
use Rattle.views.proofs.view.View.copy_run.Goals as goal
use Rattle.views.proofs.view.View.copy_run.Goals.{After-read_run}
use Rattle.views.proofs.view.View.copy_run.Given.{Over}

pub put_lows-requires-clause-fits : goal.put_lows-requires-clause-fits
put_lows-requires-clause-fits g c = grind (arith, common_steps, copied_fits)

-- as many values as the buffer has room for
many : (g : Over) (c : After-read_run g) → length c.read_run.new.values ≡ length c.args.buffer.now
many g c = grind (arith, length-map, run_length)

pub put_lows-requires-clause-rows_in : goal.put_lows-requires-clause-rows_in
put_lows-requires-clause-rows_in g c = omega (arith, many g (goal.at.put_lows-requires-clause-rows_in g c).After-read_run, c.requires.rows_in)

pub returns-clause-count : goal.returns-clause-count
returns-clause-count g c = many g (goal.at.returns-clause-count g c).After-read_run
