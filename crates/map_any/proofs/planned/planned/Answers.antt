use Rattle.map_any.proofs.Lemmas.{term_of, good_numbers, common_steps, arith, accepted_numbers, built_nameless}
use Rattle.map_any.proofs.planned.planned.Goals as goal

pub check-requires : goal.check-requires
check-requires c = record { nameless = built_nameless (term_of c.args.expr.now) c.requires.built }

pub make_plan-requires-clause-numbers : goal.make_plan-requires-clause-numbers
make_plan-requires-clause-numbers c = grind (arith, common_steps, good_numbers, accepted_numbers)
