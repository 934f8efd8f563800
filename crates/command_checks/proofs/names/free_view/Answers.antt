use Rattle.command_checks.proofs.Imports.{view_of, free_by_place}
use Rattle.command_checks.proofs.names.free_view.Goals as goal

pub returns : goal.returns
returns c = rw (free_by_place view_of c.args.name c.args.views.now, ← c.view_place.ensures) c.untaken.ensures
