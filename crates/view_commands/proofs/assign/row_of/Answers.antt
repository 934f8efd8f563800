use Rattle.view_commands.proofs.Imports.{sym, place_in_is}
use Rattle.view_commands.proofs.assign.row_of.Goals as goal

pub returns-clause-row : goal.returns-clause-row
returns-clause-row c = sym (place_in_is c.args.view.now.extents c.args.index.now c.row_of.result (rw c.extents.ensures.value at c.row_of.ensures.entry))
