use Rattle.command_checks.proofs.Imports.{rules, sym, ◌∙◌, placed_at, known_at, unknown_name}
use Rattle.command_checks.proofs.entry_list.EntryList.known.Goals as goal

pub index-requires : goal.index-requires
index-requires g c =
    let at = placed_at g.T.NamedEntry.entry_of c.args.name c.args.self.now c.in-Some.place (sym c.place_of.ensures ∙ c.in-Some.is) in
    let inside = rw (← c.self.view_is) at at.inside in
    search rules

pub returns-in-Some : goal.returns-in-Some
returns-in-Some g c =
    let at = placed_at g.T.NamedEntry.entry_of c.args.name c.args.self.now c.in-Some.place (sym c.place_of.ensures ∙ c.in-Some.is) in
    known_at g.T.NamedEntry.entry_of c.args.name c.args.self.now c.in-Some.place c.index.result.now at (rw c.self.view_is at c.index.ensures)

pub returns-in-None : goal.returns-in-None
returns-in-None g c = rw c.unknown.ensures (unknown_name g.T.NamedEntry.entry_of c.args.name _ (sym c.place_of.ensures ∙ c.in-None.is))
