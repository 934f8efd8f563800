use Rattle.record_dim.proofs.Lookup.{leads_on}
use Rattle.record_dim.proofs.nodes.+find_below.Goals as goal

pub returns-clause-some : goal.returns-clause-some
returns-clause-some t c = rw c.in-Some.ensures (leads_on _ c.in-Some.step c.in-Some.rest.now _ _ _ _ c.in_ok-before.ensures.some c.in_ok-inside.ensures.some)
