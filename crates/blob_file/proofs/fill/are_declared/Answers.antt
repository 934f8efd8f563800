use Rattle.blob_file.proofs.Lemmas.{to_z, of_z, subst, arith, int_le, cases_lt, and_parts, and_from, to_z-of_z, IsDeclared, between_true, passed, common_steps, low_declares}
use Rattle.blob_file.proofs.fill.are_declared.Goals as goal

pub loop-low-preserved : goal.loop-low-preserved
loop-low-preserved c = grind (arith, common_steps, to_z, of_z, and_parts, int_le, to_z-of_z, passed, between_true, and_from, cases_lt)

pub returns : goal.returns
returns c = λ all k l raw held low.
    low_declares c.args.kind c.args.hold raw c.requires.narrow c.requires.sign held (subst (IsDeclared c.args.kind) low (c.loop-low.invariant all k (omega (arith, l, c.loop-low-test.false))))
