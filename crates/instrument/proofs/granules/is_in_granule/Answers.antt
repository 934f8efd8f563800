use Rattle.instrument.proofs.Imports.{arith, nat_eq, nat_lt, nat_le, le-leb, eq-eqb, common_steps}
use Rattle.instrument.proofs.granules.is_in_granule.Goals as goal

pub returns-then-first-number : goal.returns-then-first-number
returns-then-first-number c = grind (arith, common_steps, nat_eq, eq-eqb, nat_le, le-leb, nat_lt)
