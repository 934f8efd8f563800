use Rattle.subviews.proofs.Imports.{◌≡◌, drop, all_stay}
use Rattle.subviews.proofs.reach.all_stay.Given as goal

abbrev pub invariant-loop-dimension : goal.invariant-loop-dimension
invariant-loop-dimension l = all_stay l.extents l.spans l.offsets ≡ all_stay (drop l.dimension l.extents) (drop l.dimension l.spans) (drop l.dimension l.offsets)
