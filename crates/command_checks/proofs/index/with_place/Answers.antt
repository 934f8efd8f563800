use Rattle.command_checks.proofs.Imports.{sym, ◌∙◌}
use Rattle.command_checks.proofs.NameTables.{place_kept, place_added}
use Rattle.command_checks.proofs.index.with_place.Goals as goal

pub returns-in-Some-clause-first : goal.returns-in-Some-clause-first
returns-in-Some-clause-first c = place_kept c.args.places c.args.name c.args.place c.in-Some.field-0 (sym c.place_of.ensures ∙ c.in-Some.is)

pub returns-in_ok-insert-in-None-clause-first : goal.returns-in_ok-insert-in-None-clause-first
returns-in_ok-insert-in-None-clause-first c = place_added c.args.places c.insert.new.self c.args.name c.args.place (sym c.place_of.ensures ∙ c.in-None.is) c.in_ok-insert-in-None.ensures.updates
