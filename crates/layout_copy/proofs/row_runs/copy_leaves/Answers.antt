use Rattle.layout_copy.proofs.Lemmas.{◌≡◌, length, get_or, refl, ap, arith, no_leaf_moved, leaf_moved, stores_quiet, steps_few, Table, AreAlike, common_steps, alike_after, same_rows, leaf_steps}
use Rattle.layout_copy.proofs.row_runs.copy_leaves.Goals as goal
use Rattle.layout_copy.proofs.row_runs.copy_leaves.Goals.{After-laws_of_table-in-loop-leaf}
use Rattle.layout_copy.proofs.row_runs.copy_leaves.Given.{Over}

alike_here : (g : Over) (c : After-laws_of_table-in-loop-leaf g) → AreAlike c.args.source.now c.loop-leaf.target
alike_here g c = alike_after c.args.source.now c.args.target.now c.args.source.now c.loop-leaf.target c.requires.alike refl c.loop-leaf.invariant.same

-- as many rows as the source has
rows_here : (g : Over) (c : After-laws_of_table-in-loop-leaf g) → length c.loop-leaf.target.rows ≡ length c.args.source.now.rows
rows_here g c = same_rows c.args.source.now c.loop-leaf.target (alike_here g c) c.laws_of_table.ensures.table c.laws_of_table-in-loop-leaf.ensures.table

pub copy_run-requires-clause-rows_in : goal.copy_run-requires-clause-rows_in
copy_run-requires-clause-rows_in g c = grind (arith, common_steps, rows_here)

pub copy_run-requires-clause-source_rows : goal.copy_run-requires-clause-source_rows
copy_run-requires-clause-source_rows g c = omega (arith, ap (λ (t : Table). length t.rows) c.loop-leaf.invariant.source, c.loop-leaf.invariant.count, c.requires.rows_in)

pub copy_run-requires-clause-alike : goal.copy_run-requires-clause-alike
copy_run-requires-clause-alike g c = grind (arith, common_steps)

pub copy_run-requires-clause-takes : goal.copy_run-requires-clause-takes
copy_run-requires-clause-takes g c = grind (arith, common_steps)

pub loop-leaf-init : goal.loop-leaf-init
loop-leaf-init g c = grind (arith, common_steps, no_leaf_moved)

pub loop-leaf-preserved : goal.loop-leaf-preserved
loop-leaf-preserved g c = grind (arith, common_steps, rows_here, stores_quiet, steps_few, leaf_moved, get_or, leaf_steps)
