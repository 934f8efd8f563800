use Rattle.saved_runs.proofs.Runs.{runs_savable}
use Rattle.saved_runs.proofs.laws.runs_savable.Goals as goal

pub returns : goal.returns
returns c = runs_savable c.opened_law.ensures c.rows_law.ensures c.bits_law.ensures c.line_law.ensures
