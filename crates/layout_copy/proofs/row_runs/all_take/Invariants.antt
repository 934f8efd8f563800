-- the leaves so far take each value of their types
use Rattle.layout_copy.proofs.Imports.{ℕ, ◌<◌, TakesAll}
use Rattle.layout_copy.proofs.row_runs.all_take.Given as goal

abbrev pub invariant-loop-leaf : goal.invariant-loop-leaf
invariant-loop-leaf l = (leaf : ℕ) → leaf < l.leaf → TakesAll l.view leaf
