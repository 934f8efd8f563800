use Rattle.instrument.proofs.Imports.{take, flat_map, enumerate_from, HasPut, granule_line}
use Rattle.instrument.proofs.heat_text.put_granules.Given as goal

abbrev pub invariant-loop-granule : goal.invariant-loop-granule
invariant-loop-granule g l = HasPut g.K.Sink.taken g.K.Sink.faults l.initial.sink l.sink l.initial.buffer l.buffer (flat_map (granule_line l.blob) (take l.granule (enumerate_from 0 l.counts)))
