use Rattle.places.proofs.Memory.{writes_keep_others}
use Rattle.places.proofs.laws.writes_keep_others.Goals as goal

pub returns : goal.returns
returns g c = writes_keep_others _ _ _ (g.met.M.Mapping.laws c.args._mapping.now)
