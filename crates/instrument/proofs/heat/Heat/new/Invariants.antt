use Rattle.instrument.proofs.Imports.{◌≡◌, map, take, replicate, granules_of}
use Rattle.instrument.proofs.heat.Heat.new.Given as goal

abbrev pub invariant-loop-bytes : goal.invariant-loop-bytes
invariant-loop-bytes l = map (λ blob. blob.items) l.blobs.items ≡ map (λ len. replicate (granules_of l.granule len) 0) (take l.bytes-index l.blob_bytes)
