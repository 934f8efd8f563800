use Rattle.actors.proofs.Imports.{subst, IsReached}
use Rattle.actors.proofs.run.ActorRun.law.Goals as goal

pub returns-clause-reached : goal.returns-clause-reached
returns-clause-reached c = subst IsReached c.self.view_is c.self.invariant.reached
