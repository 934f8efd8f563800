use Rattle.view_commands.proofs.Imports.{take, Wrote, memory_text}
use Rattle.view_commands.proofs.by_actors.write_memory.Given as goal

abbrev pub invariant-loop-blob : goal.invariant-loop-blob
invariant-loop-blob g l = Wrote g.K.Sink.taken g.K.Sink.faults l.initial.out l.out (memory_text (take l.blob l.run.state.memory))
