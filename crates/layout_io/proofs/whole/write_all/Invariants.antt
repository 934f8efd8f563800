use Rattle.std.proofs.Common.{length, ◌-◌}
use Rattle.layout_io.proofs.Loops.{WritesFront}
use Rattle.layout_io.proofs.whole.write_all.Given as goal

abbrev pub invariant-loop-done : goal.invariant-loop-done
invariant-loop-done g l = WritesFront g.K.Sink.taken g.K.Sink.faults l.initial.sink l.sink l.bytes l.done

abbrev pub decreases-loop-done : goal.decreases-loop-done
decreases-loop-done g l = length l.bytes - l.done
