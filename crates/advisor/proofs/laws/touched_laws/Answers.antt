use Rattle.advisor.proofs.Imports.{touched_split}
use Rattle.advisor.proofs.laws.touched_laws.Goals as goal

pub returns-clause-split : goal.returns-clause-split
returns-clause-split c = touched_split
