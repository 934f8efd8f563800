use Rattle.command_checks.proofs.Imports.{sym, ◌∙◌, view_of, placed_at, unknown_name}
use Rattle.command_checks.proofs.names.known_view.Goals as goal

pub returns-in-Some-clause-at : goal.returns-in-Some-clause-at
returns-in-Some-clause-at c = placed_at view_of c.args.name _ c.in-Some.place (sym c.view_place.ensures ∙ c.in-Some.is)

pub returns-in-None-clause-unknown : goal.returns-in-None-clause-unknown
returns-in-None-clause-unknown c = rw c.unknown.ensures (unknown_name view_of c.args.name _ (sym c.view_place.ensures ∙ c.in-None.is))
