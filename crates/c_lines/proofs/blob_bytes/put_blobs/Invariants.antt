use Rattle.c_lines.proofs.Imports.{◌≡◌, ◌++◌, length, drop, take, joined, blobs_of}
use Rattle.c_lines.proofs.blob_bytes.put_blobs.Given as goal

abbrev pub invariant-loop-b : goal.invariant-loop-b
invariant-loop-b l = record {
  done : l.done ≡ length (joined (take l.b (blobs_of l.view)));
  put : l.buffer ≡ joined (take l.b (blobs_of l.view)) ++ drop l.done l.initial.buffer;
}
