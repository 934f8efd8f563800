use Rattle.subviews.proofs.Imports.{◌≡◌, take, index_at, row_from}
use Rattle.subviews.proofs.far.far_of.Given as goal

-- the components so far are those of the index that is so far away from the first row's
abbrev pub invariant-loop-dimension : goal.invariant-loop-dimension
invariant-loop-dimension l = l.index.items ≡ take l.dimension (index_at l.window.0 (row_from l.window.0 l.first l.offsets.items))
