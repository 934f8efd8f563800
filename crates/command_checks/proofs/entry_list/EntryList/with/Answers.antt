use Rattle.command_checks.proofs.NameTables.{indexed_behind}
use Rattle.command_checks.proofs.entry_list.EntryList.with.Goals as goal

pub invariant_of-result : goal.invariant_of-result
invariant_of-result g c =
    let more = rw (c.name.ensures, c.len.ensures, c.self.inside.entries.ok.0) at c.in_ok-places.ensures.first in
    rw c.in_ok-push.ensures.items (indexed_behind g.T.NamedEntry.entry_of _ c.args.entry c.self.inside.places c.in_ok-places.places c.self.invariant more)
