use Rattle.actors.proofs.Lemmas.{◌≤◌, ◌∙◌, length, ap, arith, fresh_of, Run, job_in, rest_in, all_done, finished_plain}
use Rattle.actors.proofs.run.ActorRun.finish.Goals as goal

pub returns : goal.returns
returns c =
    let first = c.args.self.now in
    let over : length first.state.actors ≤ c.loop-actor.actor = omega (arith, c.loop-actor-test.false, c.actor_count-actor-end.ensures) in
    let is = all_done c.loop-actor.actor first c.loop-actor.self over c.loop-actor.invariant.count c.loop-actor.invariant.left in
    record {
      finished = is;
      done = λ actor. ap (λ (run : Run). rest_in run actor) is ∙ c.schedules_agree.ensures.left (job_in first) (fresh_of first.found) first.state actor;
      plain = finished_plain c.schedules_agree.ensures.bytes first c.loop-actor.self c.law.ensures.parted c.law.ensures.reached is;
    }
