use Rattle.actors.proofs.Imports.{◌≡◌, take, fresh_of}
use Rattle.actors.proofs.memory.fresh_blobs.Given as goal

abbrev pub invariant-loop-b : goal.invariant-loop-b
invariant-loop-b l = l.blobs.items ≡ take l.b (fresh_of l.view).loaded
