use Rattle.places.proofs.laws.laws_of.Goals as goal

pub returns-clause-lawful : goal.returns-clause-lawful
returns-clause-lawful g c = g.met.M.Mapping.laws c.args._mapping.now
