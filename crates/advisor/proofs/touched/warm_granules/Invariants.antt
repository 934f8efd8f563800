use Rattle.advisor.proofs.Imports.{◌≡◌, take, count_by, sum_by, heat_counts, is_warm}
use Rattle.advisor.proofs.touched.warm_granules.Given as goal

abbrev pub invariant-loop-blob : goal.invariant-loop-blob
invariant-loop-blob g l = l.count ≡ sum_by (count_by is_warm) (take l.blob (heat_counts l.heat).blobs)
