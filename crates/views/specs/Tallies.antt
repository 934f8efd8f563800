-- What is counted of the accesses to a view.
use Rattle.std.specs.Prelude.{ℕ, ◌/◌, Bool, true, false, List, length, map, fold, ◌++◌, filter, Option, Some, None, option_map, if◌then◌else◌}
use Rattle.views.specs.Imports.{flat_map, range_with_len, Term, has_count, granule_of, Owner, is_hot, LeafCounts, HeatCounts, counted, warmed, no_counts, no_heat, granules_in}

-- a leaf of a row is read or is written
pub data Access : Type 0 where
  Read : (row leaf : ℕ) → Access
  Write : (row leaf : ℕ) → Access

abbrev pub is_read : Access → Bool
is_read (Read row leaf) = true
is_read (Write row leaf) = false

abbrev pub is_write : Access → Bool
is_write (Read row leaf) = false
is_write (Write row leaf) = true

-- the reads of some accesses, and the writes, in order
abbrev pub reads_in : List Access → List Access
reads_in log = filter is_read log

abbrev pub writes_in : List Access → List Access
writes_in log = filter is_write log

-- the same accesses, all reads before all writes
abbrev pub reads_first : List Access → List Access
reads_first log = reads_in log ++ writes_in log

-- the counts by leaf and those by granule, each where the expression has such a node
pub record Tally : Type 0 where
  pub counts : Option LeafCounts
  pub heat : Option HeatCounts

-- one more write, or else read, of the leaf
abbrev pub leaf_touched : Bool → ℕ → LeafCounts → LeafCounts
leaf_touched false leaf counts = record counts { reads = counted counts.reads leaf }
leaf_touched true leaf counts = record counts { writes = counted counts.writes leaf }

-- the counts by leaf after one access
abbrev pub counts_touched : Access → LeafCounts → LeafCounts
counts_touched (Read row leaf) counts = leaf_touched false leaf counts
counts_touched (Write row leaf) counts = leaf_touched true leaf counts

-- one more in each granule that holds a bit of the leaf in the row
abbrev pub granules_touched : List (List Owner) → ℕ → ℕ → HeatCounts → HeatCounts
granules_touched layout row leaf heat = record heat { blobs = warmed (is_hot layout heat.granule row leaf) heat.blobs }

-- the counts by granule after one access
abbrev pub heat_touched : List (List Owner) → Access → HeatCounts → HeatCounts
heat_touched layout (Read row leaf) heat = granules_touched layout row leaf heat
heat_touched layout (Write row leaf) heat = granules_touched layout row leaf heat

-- the tally after one access
abbrev pub after_access : List (List Owner) → Tally → Access → Tally
after_access layout tally access = record { counts = option_map (counts_touched access) tally.counts; heat = option_map (heat_touched layout access) tally.heat }

-- the tally after some accesses, in order
unfoldable pub tallied : List (List Owner) → Tally → List Access → Tally
tallied layout tally log = fold (after_access layout) tally log

-- the bytes of each blob
abbrev pub blob_lengths : List (List Owner) → List ℕ
blob_lengths layout = map (λ blob. length blob / 8) layout

-- the tally of no access
abbrev pub no_tally : Term → List (List Owner) → ℕ → Tally
no_tally term layout leaves = record {
  counts = if has_count term then Some (no_counts leaves) else None;
  heat = option_map (λ granule. no_heat granule (blob_lengths layout)) (granule_of term);
}

-- how many granules are counted
abbrev pub granule_count : Option ℕ → List ℕ → ℕ
granule_count None bytes = 0
granule_count (Some granule) bytes = granules_in granule bytes

abbrev pub granules_for : Term → List (List Owner) → ℕ
granules_for term layout = granule_count (granule_of term) (blob_lengths layout)

-- a write, or else a read
abbrev pub access_to : Bool → ℕ → ℕ → Access
access_to false = Read
access_to true = Write

-- one access, all reads or all writes, of each of the first so many leaves of a row
abbrev pub row_accesses : (ℕ → ℕ → Access) → ℕ → ℕ → List Access
row_accesses access leaves row = map (access row) (range_with_len 0 leaves)

-- the same of each of the first so many rows
abbrev pub all_accesses : (ℕ → ℕ → Access) → ℕ → ℕ → List Access
all_accesses access leaves rows = flat_map (row_accesses access leaves) (range_with_len 0 rows)

-- the same so many times
abbrev pub times_accesses : (ℕ → ℕ → Access) → ℕ → ℕ → ℕ → List Access
times_accesses access times leaves rows = flat_map (λ time. all_accesses access leaves rows) (range_with_len 0 times)

-- so many reads of each leaf of each row, and then so many writes
abbrev pub all_touches : ℕ → ℕ → ℕ → ℕ → List Access
all_touches reads writes leaves rows = times_accesses Read reads leaves rows ++ times_accesses Write writes leaves rows
