-- each call takes a step off
use Rattle.record_dim.proofs.Imports.{length}
use Rattle.record_dim.proofs.nodes.+find_below.Given as goal

abbrev pub decreases-find_below : goal.decreases-find_below
decreases-find_below l = length l.steps.now
