use Rattle.advisor.proofs.Lemmas.{arith, length-map, common_steps, advice_given, costs_known}
use Rattle.advisor.proofs.adviser.advise.Goals as goal

pub returns-clause-advice : goal.returns-clause-advice
returns-clause-advice g c = grind (arith, common_steps, costs_known, length-map, advice_given)
