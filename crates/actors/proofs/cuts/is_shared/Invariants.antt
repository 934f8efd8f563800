use Rattle.actors.proofs.Lemmas.{◌≡◌, map, drop, actor_of, owner_shown, is_shared, differs}
use Rattle.actors.proofs.cuts.is_shared.Given as goal

abbrev pub invariant-loop-owner : goal.invariant-loop-owner
invariant-loop-owner l = record {
  so_far : is_shared (actor_of l.cuts) (map owner_shown l.owners) ≡ differs (actor_of l.cuts) l.first (map owner_shown (drop l.owner-index l.owners));
}
