use Rattle.instrument.proofs.Imports.{take, flat_map, enumerate_from, HasPut, heat_counts, blob_lines}
use Rattle.instrument.proofs.heat_text.put_blobs.Given as goal

abbrev pub invariant-loop-blob : goal.invariant-loop-blob
invariant-loop-blob g l = HasPut g.K.Sink.taken g.K.Sink.faults l.initial.sink l.sink l.initial.buffer l.buffer (flat_map blob_lines (take l.blob (enumerate_from 0 (heat_counts l.heat).blobs)))
