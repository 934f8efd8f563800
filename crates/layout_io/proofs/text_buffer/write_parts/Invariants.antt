use Rattle.layout_io.proofs.Imports.{take, flat_map, Gathers}
use Rattle.layout_io.proofs.text_buffer.write_parts.Given as goal

abbrev pub invariant-loop-part : goal.invariant-loop-part
invariant-loop-part g l = Gathers g.K.Sink.taken g.K.Sink.faults l.initial.sink l.sink l.buffer (flat_map (λ part. part.now) (take l.part-index l.parts))
