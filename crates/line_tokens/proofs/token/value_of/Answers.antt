use Rattle.record_dim.specs.Std.{arith, nat_tests, common_steps}
use Rattle.line_tokens.specs.DecimalLaws.{digits_more, digits_pass}
use Rattle.line_tokens.proofs.token.value_of.Goals as goal

pub returns-then-value : goal.returns-then-value
returns-then-value c =
    let great = digits_pass c.args.digits.now c.loop-byte.byte-index c.loop-byte.value c.loop-byte-test.true
    (c.requires _ 0 c.loop-byte-test.true) c.loop-byte.invariant.0 c.if-value.true in
    grind (arith, nat_tests)

pub loop-byte-preserved : goal.loop-byte-preserved
loop-byte-preserved c = grind (arith, common_steps, digits_more)
