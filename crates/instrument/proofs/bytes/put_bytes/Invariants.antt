use Rattle.instrument.proofs.Imports.{take, flat_map, enumerate_from, bits_of, HasPut, bytes_of, byte_text}
use Rattle.instrument.proofs.bytes.put_bytes.Given as goal

abbrev pub invariant-loop-at : goal.invariant-loop-at
invariant-loop-at g l =
    HasPut g.K.Sink.taken g.K.Sink.faults l.initial.sink l.sink l.initial.buffer l.buffer (flat_map byte_text (take l.at (enumerate_from 0 (bytes_of (bits_of l.blob)))))
