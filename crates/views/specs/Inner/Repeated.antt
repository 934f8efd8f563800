-- What many accesses leave of the counts by leaf, and of those by granule.
use Rattle.std.specs.Prelude.{ℕ, Bool, true, false, List, fold}
use Rattle.views.specs.Imports.{range_with_len, Owner, is_hot, LeafCounts, HeatCounts, counted_times, warmed_times}
use Rattle.views.specs.Tallies.{Access, counts_touched, heat_touched}

-- the counts by leaf after some accesses, in order
abbrev pub counts_after : List Access → LeafCounts → LeafCounts
counts_after log counts = fold (λ c access. counts_touched access c) counts log

-- the counts by granule after them
abbrev pub heat_after : List (List Owner) → List Access → HeatCounts → HeatCounts
heat_after layout log heat = fold (λ h access. heat_touched layout access h) heat log

-- so many more writes, or else reads, of the leaf
abbrev pub leaf_raised : ℕ → Bool → ℕ → LeafCounts → LeafCounts
leaf_raised times false leaf counts = record counts { reads = counted_times counts.reads leaf times }
leaf_raised times true leaf counts = record counts { writes = counted_times counts.writes leaf times }

-- the same of each of the first so many leaves
abbrev pub leaves_raised : ℕ → Bool → ℕ → LeafCounts → LeafCounts
leaves_raised times write leaves counts = fold (λ c leaf. leaf_raised times write leaf c) counts (range_with_len 0 leaves)

-- so many more in each granule that holds a bit of the leaf in the row
abbrev pub granules_raised : ℕ → List (List Owner) → ℕ → ℕ → HeatCounts → HeatCounts
granules_raised times layout row leaf heat = record heat { blobs = warmed_times times (is_hot layout heat.granule row leaf) heat.blobs }

-- the same of each of the first so many leaves of a row
abbrev pub row_raised : ℕ → List (List Owner) → ℕ → ℕ → HeatCounts → HeatCounts
row_raised times layout leaves row heat = fold (λ h leaf. granules_raised times layout row leaf h) heat (range_with_len 0 leaves)

-- the same of each of the first so many rows
abbrev pub rows_raised : ℕ → List (List Owner) → ℕ → ℕ → HeatCounts → HeatCounts
rows_raised times layout leaves rows heat = fold (λ h row. row_raised times layout leaves row h) heat (range_with_len 0 rows)
