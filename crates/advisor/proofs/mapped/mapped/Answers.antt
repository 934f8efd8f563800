use Rattle.advisor.proofs.Lemmas.{rules, ◌≡◌, Err, Result, leb-true, term_of, MakeMap, Plan, schema_fields, common_steps, arith, plan_refused, told_good, told_many, told_refused}
use Rattle.advisor.proofs.mapped.mapped.Goals as goal

pub returns-then-not-has_few_granules-clause-refused : goal.returns-then-not-has_few_granules-clause-refused
returns-then-not-has_few_granules-clause-refused c = grind (arith, common_steps, told_many)

pub returns-clause-good : goal.returns-clause-good
returns-clause-good c = grind (arith, common_steps, told_good, leb-true)

pub returns-in_err-plan-clause-refused : goal.returns-in_err-plan-clause-refused
returns-in_err-plan-clause-refused c =
    let v = c.args.view.now in
    let term = term_of c.args.expr.now in
    let trees = schema_fields c.schema-schema.result.now in
    let fault = c.in_err-plan.field-0.0 in
    let err : MakeMap → Result Plan MakeMap = λ e. Err e in
    let is : c.from_residual-in_err-plan.result ≡ Err fault = search rules in grind (arith, told_refused, plan_refused)
