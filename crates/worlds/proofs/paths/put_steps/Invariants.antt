use Rattle.worlds.proofs.Imports.{take, flat_map, HasPut, step_text}
use Rattle.worlds.proofs.paths.put_steps.Given as goal

abbrev pub invariant-loop-step : goal.invariant-loop-step
invariant-loop-step g l = HasPut g.K.Sink.taken g.K.Sink.faults l.initial.sink l.sink l.initial.buffer l.buffer (flat_map step_text (take l.step-index l.steps))
