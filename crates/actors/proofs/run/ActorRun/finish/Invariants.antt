use Rattle.actors.proofs.Imports.{◌≡◌, length, finished_from}
use Rattle.actors.proofs.run.ActorRun.finish.Given as goal

abbrev pub invariant-loop-actor : goal.invariant-loop-actor
invariant-loop-actor l = record {
  left : finished_from l.actor l.self ≡ finished_from 0 l.initial.self;
  same : l.self ≡ record l.initial.self { state = l.self.state };
  count : length l.self.state.actors ≡ length l.initial.self.state.actors;
}
