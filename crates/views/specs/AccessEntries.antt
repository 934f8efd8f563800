-- What is counted of accesses: each number is that of its entries in the log, or 2^64 - 1 where there are more.
use Rattle.std.specs.Prelude.{◌≡◌, ℕ, ◌-◌, ◌/◌, ◌^◌, ◌<◌, ◌==◌, min, Bool, false, IfSome, List, [], length, slice_index, slice_index_or, count_by}
use Rattle.views.specs.Imports.{Owner, is_hot, LeafCounts, HeatCounts, granules_of}
use Rattle.views.specs.Tallies.{Access, Read, Write, Tally}

-- whether an access reads, or writes, a leaf
abbrev pub reads_leaf : ℕ → Access → Bool
reads_leaf leaf (Read row other) = other == leaf
reads_leaf leaf (Write row other) = false

abbrev pub writes_leaf : ℕ → Access → Bool
writes_leaf leaf (Read row other) = false
writes_leaf leaf (Write row other) = other == leaf

-- whether a granule of a blob holds a byte that holds a bit of the leaf of an access in its row
abbrev pub touches : List (List Owner) → ℕ → ℕ → ℕ → Access → Bool
touches layout granule blob at (Read row leaf) = is_hot layout granule row leaf blob at
touches layout granule blob at (Write row leaf) = is_hot layout granule row leaf blob at

-- the number of some entries, as far as a count goes
abbrev pub entries : (Access → Bool) → List Access → ℕ
entries test log = min (count_by test log) (2 ^ 64 - 1)

-- the counts of so many leaves are those of a log
pub record AreCounts (leaves : ℕ) (log : List Access) (counts : LeafCounts) : Type 0 where
  pub reads : (leaf : ℕ) → leaf < leaves → slice_index counts.reads leaf ≡ entries (reads_leaf leaf) log
  pub writes : (leaf : ℕ) → leaf < leaves → slice_index counts.writes leaf ≡ entries (writes_leaf leaf) log

-- the counts of the granules of each blob are those of a log
abbrev pub AreHeat : List (List Owner) → List Access → HeatCounts → Type 0
AreHeat layout log heat =
    (blob at : ℕ) → blob < length layout → at < granules_of heat.granule (length (slice_index_or layout blob []) / 8)
    → slice_index (slice_index_or heat.blobs blob []) at ≡ entries (touches layout heat.granule blob at) log

-- what is counted are the entries of a log
pub record AreEntries (layout : List (List Owner)) (leaves : ℕ) (log : List Access) (tally : Tally) : Type 0 where
  pub counts : IfSome tally.counts (AreCounts leaves log)
  pub heat : IfSome tally.heat (AreHeat layout log)
