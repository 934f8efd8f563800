use Rattle.advisor.proofs.Imports.{◌≡◌, [], get_or, take, count_by, heat_counts, is_warm}
use Rattle.advisor.proofs.touched.warm_in.Given as goal

abbrev pub invariant-loop-at : goal.invariant-loop-at
invariant-loop-at l = l.count ≡ count_by is_warm (take l.at (get_or (heat_counts l.heat).blobs l.blob []))
