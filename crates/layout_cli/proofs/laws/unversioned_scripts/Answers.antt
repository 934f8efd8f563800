use Rattle.layout_cli.proofs.Equals.{runs_unversioned}
use Rattle.layout_cli.proofs.laws.unversioned_scripts.Goals as goal

pub returns : goal.returns
returns c = runs_unversioned
