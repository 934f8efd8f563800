use Rattle.map_bytes.proofs.Imports.{length-full, differ_none, full_kinds, common_steps, arith}
use Rattle.map_bytes.proofs.byteswap.Byteswap.new.Goals as goal

pub invariant_of-result : goal.invariant_of-result
invariant_of-result g c = grind (arith, common_steps, length-full, differ_none, full_kinds)

pub returns-then-has_other_hold-clause-not_full : goal.returns-then-has_other_hold-clause-not_full
returns-then-has_other_hold-clause-not_full g c = grind (arith, common_steps, full_kinds)

pub returns-in_err-cells-clause-not_full : goal.returns-in_err-cells-clause-not_full
returns-in_err-cells-clause-not_full g c = grind (arith, common_steps, full_kinds)

pub returns-clause-not_full : goal.returns-clause-not_full
returns-clause-not_full g c = grind (arith, common_steps, full_kinds)
