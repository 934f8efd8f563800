use Rattle.instrument.proofs.Imports.{take, flat_map, schema_fields, texts_of, HasPut, run_line}
use Rattle.instrument.proofs.runs_text.put_runs.Given as goal

abbrev pub invariant-loop-run : goal.invariant-loop-run
invariant-loop-run g l = HasPut g.K.Sink.taken g.K.Sink.faults l.initial.sink l.sink l.initial.buffer l.buffer (flat_map (run_line (texts_of (schema_fields l.schema))) (take l.run-index l.runs))
