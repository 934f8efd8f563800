use Rattle.views.proofs.Lemmas.{◌≡◌, ◌+◌, take, half, blocks_of}
use Rattle.views.proofs.moves.move_all.Given as goal

-- the blobs so far are the others
abbrev pub invariant-loop-blob : goal.invariant-loop-blob
invariant-loop-blob g l = record {
  moved : l.blobs.items ≡ half l.others l.initial.blobs.items l.blob;
  steps : l.steps ≡ l.initial.steps + blocks_of (take l.blob l.others);
}
