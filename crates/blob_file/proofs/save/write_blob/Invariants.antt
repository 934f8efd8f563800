use Rattle.blob_file.proofs.Imports.{◌≡◌, ◌-◌, ◌≤◌, length, take, Wrote}
use Rattle.blob_file.proofs.save.write_blob.Given as goal

abbrev pub invariant-loop-done : goal.invariant-loop-done
invariant-loop-done g l = record {
  within : l.done ≤ length l.blob;
  room : length l.block ≡ 16384;
  wrote : Wrote g.K.Sink.taken g.K.Sink.faults l.initial.sink l.sink (take l.done l.blob);
}

abbrev pub decreases-loop-done : goal.decreases-loop-done
decreases-loop-done g l = length l.blob - l.done
