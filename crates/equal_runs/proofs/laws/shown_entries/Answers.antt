use Rattle.equal_runs.proofs.Shown.{shows_entries}
use Rattle.equal_runs.proofs.laws.shown_entries.Goals as goal

pub returns : goal.returns
returns c = shows_entries c.counts_are_entries.ensures
