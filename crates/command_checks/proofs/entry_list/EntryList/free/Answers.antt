use Rattle.command_checks.proofs.Imports.{free_by_place}
use Rattle.command_checks.proofs.entry_list.EntryList.free.Goals as goal

pub returns : goal.returns
returns g c = rw (free_by_place g.T.NamedEntry.entry_of c.args.name c.args.self.now, ← c.place_of.ensures) c.untaken.ensures
