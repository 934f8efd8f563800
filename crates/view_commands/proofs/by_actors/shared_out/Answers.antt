use Rattle.view_commands.proofs.Acting.{cuts_fit, small_few, none_shared}
use Rattle.view_commands.proofs.by_actors.shared_out.Goals as goal
use Rattle.record_dim.specs.Std.{common_steps, arith}

pub check_apart-requires-clause-cuts : goal.check_apart-requires-clause-cuts
check_apart-requires-clause-cuts c = grind (arith, common_steps, cuts_fit)

pub returns-clause-team : goal.returns-clause-team
returns-clause-team c = grind (arith, common_steps, cuts_fit, small_few, none_shared)
