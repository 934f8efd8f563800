use Rattle.views.proofs.Counted.{are_entries}
use Rattle.views.proofs.laws.counts_are_entries.Goals as goal

pub returns : goal.returns
returns c = are_entries
