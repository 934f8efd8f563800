use Rattle.lane_kernels.proofs.Imports.{arith, common_steps}
use Rattle.lane_kernels.proofs.Faults.{lane_inside, told_some}
use Rattle.lane_kernels.proofs.rows.store_rows.Goals as goal

pub overflow_add-row : goal.overflow_add-row
overflow_add-row g c = grind (arith, common_steps, told_some, lane_inside)
