-- the leaves so far are stored as their types are
use Rattle.layout_copy.proofs.Imports.{ℕ, ◌<◌, hold_at, IsOwn, kind_at, leaf_types_of, table_holds}
use Rattle.layout_copy.proofs.ways.has_own_holds.Given as goal

abbrev pub invariant-loop-leaf : goal.invariant-loop-leaf
invariant-loop-leaf l = (leaf : ℕ) → leaf < l.leaf → IsOwn (kind_at (leaf_types_of l.view) leaf) (hold_at (table_holds l.view) leaf)
