use Rattle.map_aos.proofs.Blob.{big_part, big_blob, not_too_big}
use Rattle.map_aos.proofs.aos.Aos.new.Goals as goal
use Rattle.record_dim.specs.Std.{common_steps, arith}

pub returns-in_err-part-clause-too_big : goal.returns-in_err-part-clause-too_big
returns-in_err-part-clause-too_big c = grind (arith, common_steps, big_part)

pub returns-then-slots-part-gt-MAX_BLOB_BITS-clause-too_big :
    goal.returns-then-slots-part-gt-MAX_BLOB_BITS-clause-too_big
returns-then-slots-part-gt-MAX_BLOB_BITS-clause-too_big c = grind (arith, big_blob)

pub returns-clause-fits : goal.returns-clause-fits
returns-clause-fits c = grind (arith, common_steps, not_too_big)
