use Rattle.actor_tasks.proofs.Imports.{arith, row_told, rows_found, rows_over, rows_none}
use Rattle.actor_tasks.proofs.rows.next_in_rows.Goals as goal
use Rattle.std.proofs.lemmas.Grind.{common_steps}

pub returns-in-Some-clause-next : goal.returns-in-Some-clause-next
returns-in-Some-clause-next g c = grind (arith, common_steps, rows_found, row_told)

pub loop-at-preserved : goal.loop-at-preserved
loop-at-preserved g c = record {
  few = omega arith;
  so_far = λ job are. grind (arith, rows_over, row_told);
}

pub returns-clause-next : goal.returns-clause-next
returns-clause-next g c = grind (arith, common_steps, rows_none)
