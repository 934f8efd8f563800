use Rattle.actors.proofs.Lemmas.{length, rest_in, IsLeft}
use Rattle.actors.proofs.run.ActorRun.finish_actor.Given as goal

abbrev pub invariant-loop : goal.invariant-loop
invariant-loop l = IsLeft l.actor l.initial.self l.self

abbrev pub decreases-loop : goal.decreases-loop
decreases-loop l = length (rest_in l.self l.actor)
