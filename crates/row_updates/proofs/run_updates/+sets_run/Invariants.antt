use Rattle.row_updates.proofs.Imports.{length}
use Rattle.row_updates.proofs.run_updates.+sets_run.Given as goal

abbrev pub decreases-sets_run : goal.decreases-sets_run
decreases-sets_run g l = length l.sets.now
