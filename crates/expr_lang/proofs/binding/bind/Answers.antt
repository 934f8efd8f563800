use Rattle.expr_lang.proofs.Imports.{length-map, leaves, common_steps, arith}
use Rattle.expr_lang.proofs.Unknown.{none_first}
use Rattle.expr_lang.proofs.Within.{bound_within}
use Rattle.expr_lang.proofs.binding.bind.Goals as goal

pub invariant_of-result : goal.invariant_of-result
invariant_of-result c = grind (arith, common_steps, bound_within, length-map, leaves, none_first)
