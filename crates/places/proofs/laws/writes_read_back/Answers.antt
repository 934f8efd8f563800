use Rattle.places.proofs.Memory.{writes_read_back}
use Rattle.places.proofs.laws.writes_read_back.Goals as goal

pub returns : goal.returns
returns g c = writes_read_back _ _ _ (g.met.M.Mapping.laws c.args._mapping.now)
