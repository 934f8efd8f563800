use Rattle.layout_copy.proofs.Imports.{arith, ◌<◌, ◌≤◌, ⊎_elim, cases_lt}
use Rattle.layout_copy.proofs.row_runs.all_take.Goals as goal

pub loop-leaf-preserved : goal.loop-leaf-preserved
loop-leaf-preserved c =
    λ leaf below.
    ⊎_elim (λ (less : leaf < c.loop-leaf.leaf). c.loop-leaf.invariant leaf less)
    (λ (more : c.loop-leaf.leaf ≤ leaf). grind arith)
    (cases_lt leaf c.loop-leaf.leaf)
