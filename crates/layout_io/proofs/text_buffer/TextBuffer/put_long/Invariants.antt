use Rattle.std.proofs.Common.{◌+◌, length}
use Rattle.layout_io.proofs.Puts.{PutsFront}
use Rattle.layout_io.proofs.text_buffer.TextBuffer.put_long.Given as goal

abbrev pub invariant-loop-rest : goal.invariant-loop-rest
invariant-loop-rest g l = PutsFront g.K.Sink.taken g.K.Sink.faults l.initial.sink l.sink l.initial.self l.self l.piece l.rest

abbrev pub decreases-loop-rest : goal.decreases-loop-rest
decreases-loop-rest g l = length l.rest + length l.self
