use Rattle.actors.proofs.Imports.{◌≡◌, take, memory_of}
use Rattle.actors.proofs.memory.copied_blobs.Given as goal

abbrev pub invariant-loop-b : goal.invariant-loop-b
invariant-loop-b l = l.blobs.items ≡ take l.b (memory_of l.view)
