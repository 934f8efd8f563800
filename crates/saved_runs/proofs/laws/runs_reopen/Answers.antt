use Rattle.saved_runs.proofs.Reopens.{runs_reopen}
use Rattle.saved_runs.proofs.laws.runs_reopen.Goals as goal

pub returns : goal.returns
returns c = runs_reopen c.saved_opens.ensures c.runs_savable.ensures
