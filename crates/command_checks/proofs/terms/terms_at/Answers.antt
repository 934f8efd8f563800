use Rattle.command_checks.proofs.Imports.{arith, common_steps}
use Rattle.command_checks.proofs.WeightedTerms.{terms_more}
use Rattle.command_checks.proofs.terms.terms_at.Goals as goal

pub loop-place-preserved : goal.loop-place-preserved
loop-place-preserved c = grind (arith, common_steps, terms_more)
