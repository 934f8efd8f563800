use Rattle.equal_runs.proofs.Runs.{equal}
use Rattle.equal_runs.proofs.laws.same_results.Goals as goal

pub returns : goal.returns
returns c = equal
