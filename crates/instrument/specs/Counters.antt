-- Counts of accesses, by leaf and by granule of a blob's bytes.
use Rattle.std.specs.Prelude.{◌≡◌, ℕ, ◌+◌, ◌-◌, ◌*◌, ◌/◌, ◌^◌, ◌<◌, ◌≤◌, min, Bool, if◌then◌else◌, List, [], length, map, replicate, slice_index, slice_index_or, slice_set, sum_by}
use Rattle.record_dim.specs.Std.{enumerate_from}
use Rattle.places.specs.declared.piece.Piece.{Piece}
use Rattle.places.specs.Prelude.{is_touched}
use Rattle.instrument.specs.declared.counts.Counts.{Counts}
use Rattle.instrument.specs.declared.heat.Heat.{Heat}

-- so many more; a count stands still at the end of its type
abbrev pub raised : ℕ → ℕ → ℕ
raised times count = min (count + times) (2 ^ 64 - 1)

-- one more
abbrev pub next : ℕ → ℕ
next count = raised 1 count

-- so many more in a place
abbrev pub counted_times : List ℕ → ℕ → ℕ → List ℕ
counted_times counts place times = slice_set counts place (raised times (slice_index counts place))

-- one more in a place
abbrev pub counted : List ℕ → ℕ → List ℕ
counted counts place = counted_times counts place 1

-- the reads and the writes of each leaf
pub record LeafCounts : Type 0 where
  pub reads : List ℕ
  pub writes : List ℕ

-- counts of so many leaves
pub record HasLeaves (counts : LeafCounts) (leaves : ℕ) : Type 0 where
  pub reads : length counts.reads ≡ leaves
  pub writes : length counts.writes ≡ leaves

-- what a `Counts` means
abbrev pub leaf_counts : Counts → LeafCounts
leaf_counts counts = record { reads = counts.reads.items; writes = counts.writes.items }

-- the counts of so many leaves, each 0
abbrev pub no_counts : ℕ → LeafCounts
no_counts leaves = record { reads = replicate leaves 0; writes = replicate leaves 0 }

-- the accesses to each granule of each blob; a granule has so many bytes, the last of a blob perhaps fewer
pub record HeatCounts : Type 0 where
  pub granule : ℕ
  pub blobs : List (List ℕ)

-- what a `Heat` means
abbrev pub heat_counts : Heat → HeatCounts
heat_counts heat = record { granule = heat.granule; blobs = map (λ blob. blob.items) heat.blobs.items }

-- how many granules some bytes have
abbrev pub granules_of : ℕ → ℕ → ℕ
granules_of granule bytes = (bytes + (granule - 1)) / granule

-- those of blobs of so many bytes, together
abbrev pub granules_in : ℕ → List ℕ → ℕ
granules_in granule bytes = sum_by (granules_of granule) bytes

-- the counts of the granules of blobs of so many bytes, each 0
abbrev pub no_heat : ℕ → List ℕ → HeatCounts
no_heat granule bytes = record { granule = granule; blobs = map (λ len. replicate (granules_of granule len) 0) bytes }

-- so many more in each granule that is hot; a granule has the number of its blob and its own
abbrev pub warmed_blob : ℕ → (ℕ → Bool) → List ℕ → List ℕ
warmed_blob times hot counts = map (λ at. if hot at.0 then raised times at.1 else at.1) (enumerate_from 0 counts)

-- the same in each blob
abbrev pub warmed_times : ℕ → (ℕ → ℕ → Bool) → List (List ℕ) → List (List ℕ)
warmed_times times hot blobs = map (λ blob. warmed_blob times (hot blob.0) blob.1) (enumerate_from 0 blobs)

-- one more in each granule that is hot
abbrev pub warmed : (ℕ → ℕ → Bool) → List (List ℕ) → List (List ℕ)
warmed hot blobs = warmed_times 1 hot blobs

-- the counts after so many accesses to all of these pieces
abbrev pub heated_times : ℕ → List Piece → HeatCounts → HeatCounts
heated_times times pieces heat = record heat { blobs = warmed_times times (is_touched heat.granule pieces) heat.blobs }

-- the counts after one
abbrev pub heated_by : List Piece → HeatCounts → HeatCounts
heated_by pieces heat = heated_times 1 pieces heat

-- a piece whose bytes lie in granules that are counted
pub record IsCountedPiece (heat : HeatCounts) (piece : Piece) : Type 0 where
  pub blob_in : piece.blob < length heat.blobs
  pub within : piece.bit + piece.bits ≤ 8 * heat.granule * length (slice_index_or heat.blobs piece.blob [])

-- the same of one that is not empty, and whose end is a number of 64 bits
pub record IsInside (heat : HeatCounts) (piece : Piece) : Type 0 where
  pub blob_in : piece.blob < length heat.blobs
  pub some : 0 < piece.bits
  pub within : piece.bit + piece.bits ≤ 8 * heat.granule * length (slice_index_or heat.blobs piece.blob [])
  pub bound : piece.bit + piece.bits < 2 ^ 64
