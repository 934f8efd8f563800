use Rattle.record_dim.proofs.Imports.{arith, length-map, fields_of, leaves}
use Rattle.record_dim.proofs.Fit.{fit_some}
use Rattle.record_dim.proofs.schema.Schema.leaf_count.Goals as goal

pub returns-clause-some : goal.returns-clause-some
returns-clause-some c = grind (arith, leaves, fields_of, length-map, fit_some)
