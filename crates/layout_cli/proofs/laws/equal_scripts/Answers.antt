use Rattle.layout_cli.proofs.Equals.{equal_scripts_from}
use Rattle.layout_cli.proofs.laws.equal_scripts.Goals as goal

pub returns : goal.returns
returns c = equal_scripts_from c.same_results.ensures
