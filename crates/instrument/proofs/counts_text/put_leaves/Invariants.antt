use Rattle.instrument.proofs.Imports.{take, flat_map, enumerate_from, schema_fields, texts_of, HasPut, leaf_counts, leaf_line}
use Rattle.instrument.proofs.counts_text.put_leaves.Given as goal

abbrev pub invariant-loop-leaf : goal.invariant-loop-leaf
invariant-loop-leaf g l =
    HasPut g.K.Sink.taken g.K.Sink.faults l.initial.sink l.sink l.initial.buffer l.buffer (flat_map (leaf_line (leaf_counts l.counts)) (take l.leaf (enumerate_from 0 (texts_of (schema_fields l.schema)))))
