use Rattle.saved_runs.proofs.Saves.{opened_saves}
use Rattle.saved_runs.proofs.laws.opened_saves.Goals as goal

pub returns : goal.returns
returns c = opened_saves c.opened_law.ensures c.rows_law.ensures
