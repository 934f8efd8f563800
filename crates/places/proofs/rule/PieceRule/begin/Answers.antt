use Rattle.record_dim.specs.Std.{arith, trailing_zeros, common_steps}
use Rattle.places.specs.BeginsLaws.{masked, powered, power_is}
use Rattle.places.proofs.rule.PieceRule.begin.Goals as goal

pub overflow_mul-result-then-self-power-2 : goal.overflow_mul-result-then-self-power-2
overflow_mul-result-then-self-power-2 c = grind (arith, common_steps, trailing_zeros, power_is, masked)

pub overflow_add-result-then-self-power-2 : goal.overflow_add-result-then-self-power-2
overflow_add-result-then-self-power-2 c = grind (arith, common_steps, trailing_zeros, power_is, masked, powered)

pub returns-then-self-power : goal.returns-then-self-power
returns-then-self-power c = grind (arith, common_steps, trailing_zeros, power_is, masked, powered)
