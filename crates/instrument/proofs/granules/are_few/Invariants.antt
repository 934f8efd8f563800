use Rattle.instrument.proofs.Imports.{◌≡◌, ◌+◌, ◌^◌, take, granules_in}
use Rattle.instrument.proofs.granules.are_few.Given as goal

abbrev pub invariant-loop-bytes : goal.invariant-loop-bytes
invariant-loop-bytes l = l.left + granules_in l.granule (take l.bytes-index l.blob_bytes) ≡ 2 ^ 24
