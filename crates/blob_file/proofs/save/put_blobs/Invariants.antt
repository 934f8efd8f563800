use Rattle.blob_file.proofs.Imports.{take, HasPut, joined, blobs_of}
use Rattle.blob_file.proofs.save.put_blobs.Given as goal

abbrev pub invariant-loop-b : goal.invariant-loop-b
invariant-loop-b g l = HasPut g.K.Sink.taken g.K.Sink.faults l.initial.sink l.sink l.initial.buffer l.buffer (joined (take l.b (blobs_of l.view)))
