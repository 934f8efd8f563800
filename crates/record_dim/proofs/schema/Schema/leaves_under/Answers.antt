use Rattle.record_dim.proofs.Imports.{arith, Record, fields_of, leaves}
use Rattle.record_dim.proofs.Fit.{fit_few}
use Rattle.record_dim.proofs.Lookup.{stretch_few}
use Rattle.record_dim.proofs.schema.Schema.leaves_under.Goals as goal

pub returns-clause-some : goal.returns-clause-some
returns-clause-some c = grind (arith, fields_of, Record, fit_few, stretch_few, leaves)
