use Rattle.saved_runs.proofs.Opens.{saved_opens}
use Rattle.saved_runs.proofs.laws.saved_opens.Goals as goal

pub returns : goal.returns
returns c = saved_opens c.opened_law.ensures c.rows_law.ensures
