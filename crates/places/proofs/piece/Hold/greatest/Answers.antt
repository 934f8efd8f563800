use Rattle.record_dim.specs.Std.{arith, pow_pos, common_steps}
use Rattle.places.specs.NumbersLaws.{half_of, ones_of}
use Rattle.places.proofs.piece.Hold.greatest.Goals as goal

pub returns-then-self : goal.returns-then-self
returns-then-self c = grind (arith, common_steps, ones_of, pow_pos, half_of)

pub returns-else-self : goal.returns-else-self
returns-else-self c = grind (arith, common_steps, ones_of, pow_pos, half_of)
