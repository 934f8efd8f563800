use Rattle.row_updates.proofs.Imports.{sym, after_log-none}
use Rattle.row_updates.proofs.value.passes.Goals as goal

pub returns-in-None-clause-same : goal.returns-in-None-clause-same
returns-in-None-clause-same g c = rw c.in-None.is (sym (after_log-none c.args.view.now))
