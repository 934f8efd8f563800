use Rattle.view_commands.proofs.Imports.{map, setting_of, filter_term}
use Rattle.view_commands.proofs.Arms.{update_done}
use Rattle.view_commands.proofs.update.update_all.Goals as goal

pub returns-in-Ok : goal.returns-in-Ok
returns-in-Ok g c = update_done c.args.view.now c.update_rows.new.view (filter_term c.args.filter) (map setting_of c.args.sets.now) c.in-Ok.ensures.stored c.in-Ok.ensures.same
