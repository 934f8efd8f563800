use Rattle.map_bytes.proofs.Imports.{length-full, differ_none, common_steps, arith}
use Rattle.map_bytes.proofs.bytesplit.Bytesplit.new.Goals as goal

pub invariant_of-result : goal.invariant_of-result
invariant_of-result g c = grind (arith, common_steps, length-full, differ_none)
