use Rattle.actors.proofs.Lemmas.{arith, length-leaf_cells, common_steps, targets_inside, plans_told}
use Rattle.actors.proofs.actor.turn_of.Goals as goal

pub next_step-requires-clause-targets_in : goal.next_step-requires-clause-targets_in
next_step-requires-clause-targets_in c = grind (arith, common_steps, length-leaf_cells, targets_inside)

pub returns-clause-turn : goal.returns-clause-turn
returns-clause-turn c = grind (arith, common_steps, length-leaf_cells, plans_told)
