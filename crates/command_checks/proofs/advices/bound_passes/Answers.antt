use Rattle.command_checks.proofs.Imports.{rules, ◌≡◌, Err, length-append, bound_pass, common_steps, arith}
use Rattle.command_checks.proofs.Each.{each_more, each_ends}
use Rattle.command_checks.proofs.advices.bound_passes.Goals as goal

pub returns-in_err-pass-clause-passes : goal.returns-in_err-pass-clause-passes
returns-in_err-pass-clause-passes c =
    let is : c.from_residual.result ≡ Err c.in_err-pass.field-0.0 = search rules in
    let gives = rw c.text-item.is at c.in_err-pass.ensures in
    rw is (each_ends (bound_pass c.args.view.now.fields) c.args.texts.now c.loop-text.text-index c.text-item.result c.loop-text.passes c.in_err-pass.field-0.0 c.loop-text-test.true c.loop-text.invariant.passes gives)

pub loop-text-preserved : goal.loop-text-preserved
loop-text-preserved c = grind (arith, common_steps, each_more, length-append)
