use Rattle.command_checks.proofs.Imports.{rules, ◌≡◌, ◌++◌, Err, range_with_len}
use Rattle.command_checks.proofs.Passes.{under_more, under_ends}
use Rattle.command_checks.proofs.advices.leaves_under.Goals as goal

pub returns-in_err-first : goal.returns-in_err-first
returns-in_err-first c =
    let is : c.from_residual.result ≡ Err c.in_err-first.field-0.0 = search rules in
    let gives = rw c.path-item.is at c.in_err-first.ensures.leaves in
    rw is (under_ends c.args.view.now.fields c.args.paths.now c.loop-path.path-index c.path-item.result c.loop-path.leaves c.in_err-first.field-0.0 c.loop-path-test.true c.loop-path.invariant gives)

pub loop-path-preserved : goal.loop-path-preserved
loop-path-preserved c =
    let more = range_with_len c.in_ok-first.first c.in_ok-first.count in
    let is = rw c.path-item.is at c.in_ok-first.ensures.leaves in
    let push : c.push_range.new.numbers ≡ c.loop-path.leaves ++ more = search rules in
    under_more c.args.view.now.fields c.args.paths.now c.loop-path.path-index c.path-item.result c.loop-path.leaves more c.push_range.new.numbers c.loop-path-test.true c.loop-path.invariant is push
