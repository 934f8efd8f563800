use Rattle.record_dim.proofs.Lookup.{leads_in}
use Rattle.record_dim.proofs.nodes.find.Goals as goal

pub returns-in_ok-inside-in-Name-clause-some : goal.returns-in_ok-inside-in-Name-clause-some
returns-in_ok-inside-in-Name-clause-some c = rw (c.in-Some.ensures, c.in-Name.is) (leads_in _ _ c.in-Some.rest.now _ _ _ _ c.in_ok-before-in-Name.ensures.some c.in_ok-inside-in-Name.ensures.some)
