use Rattle.actors.proofs.Imports.{◌≡◌, ◌+◌, drop, actor_of}
use Rattle.actors.proofs.cuts.actor_of.Given as goal

abbrev pub invariant-loop-actor : goal.invariant-loop-actor
invariant-loop-actor l = record {
  so_far : actor_of l.cuts l.row ≡ l.actor + actor_of (drop l.actor l.cuts) l.row;
}
