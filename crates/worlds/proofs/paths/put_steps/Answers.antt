use Rattle.worlds.proofs.Imports.{rules, IsErr, Puts-loop_err, step_text}
use Rattle.worlds.proofs.paths.put_steps.Goals as goal

pub returns-in_err-put_step : goal.returns-in_err-put_step
returns-in_err-put_step g c =
    let err : IsErr c.from_residual.result = search rules in
    let stop = rw c.step-item.is at c.in_err-put_step.ensures in
    Puts-loop_err c.from_residual.result step_text c.args.steps.now c.loop-step.step-index c.step-item.result c.loop-step-test.true err c.loop-step.invariant stop
