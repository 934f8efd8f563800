use Rattle.map_any.proofs.Lemmas.{get_or, append_assoc, arith, drop_more, common_steps, run_longer, run_ends}
use Rattle.map_any.proofs.runs.join_bits.Goals as goal
use Rattle.map_any.proofs.runs.join_bits.Goals.{then-is_next, else-is_next+in_ok-push}

pub loop-bit-preserved : goal.loop-bit-preserved
loop-bit-preserved c = grind (arith, common_steps, get_or, drop_more, then-is_next, run_longer, else-is_next+in_ok-push, append_assoc, run_ends)
