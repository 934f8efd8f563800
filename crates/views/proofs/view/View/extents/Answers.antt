use Rattle.views.proofs.Opened.{table_seen}
use Rattle.views.proofs.view.View.extents.Goals as goal

pub returns-clause-table : goal.returns-clause-table
returns-clause-table c = table_seen c.self.invariant.1 c.self.view_is
