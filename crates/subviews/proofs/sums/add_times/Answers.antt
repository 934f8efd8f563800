use Rattle.subviews.proofs.Imports.{arith, to_z, of_z, cases_eq, to_z-of_z, length-set, get_or-set_same, get_or-set_other, slice_set, common_steps}
use Rattle.subviews.proofs.sums.add_times.Goals as goal

pub loop-k-preserved : goal.loop-k-preserved
loop-k-preserved c = grind (arith, common_steps, to_z, of_z, to_z-of_z, length-set, slice_set, get_or-set_same, get_or-set_other, cases_eq)
