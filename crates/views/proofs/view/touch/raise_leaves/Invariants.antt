use Rattle.views.proofs.Imports.{◌≡◌, leaf_counts, HasLeaves, leaves_raised}
use Rattle.views.proofs.view.touch.raise_leaves.Given as goal

abbrev pub invariant-loop-leaf : goal.invariant-loop-leaf
invariant-loop-leaf l = (leaf_counts l.counts ≡ leaves_raised l.times l.write l.leaf (leaf_counts l.initial.counts)) × HasLeaves (leaf_counts l.counts) l.leaves
