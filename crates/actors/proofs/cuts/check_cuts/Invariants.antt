-- no byte of a blob so far is shared
use Rattle.actors.proofs.Lemmas.{◌≡◌, owners_of, actor_of, shared_byte, first_from}
use Rattle.actors.proofs.cuts.check_cuts.Given as goal

abbrev pub invariant-loop-blob : goal.invariant-loop-blob
invariant-loop-blob l = record {
  so_far : shared_byte (owners_of l.view) (actor_of l.cuts) ≡ first_from (owners_of l.view) (actor_of l.cuts) l.blob;
}
