use Rattle.layout_io.proofs.Imports.{take, flat_map, HasPut, text_of_part}
use Rattle.layout_io.proofs.text_buffer.TextBuffer.put_parts.Given as goal

abbrev pub invariant-loop-part : goal.invariant-loop-part
invariant-loop-part g l = HasPut g.K.Sink.taken g.K.Sink.faults l.initial.sink l.sink l.initial.self l.self (flat_map text_of_part (take l.part-index l.parts))
