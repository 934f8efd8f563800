-- Granules that were accessed.
use Rattle.std.specs.Prelude.{ℕ, ◌≡◌, ◌<◌, ◌==◌, ◌||◌, Bool, not, [], length, slice_index_or}
use Rattle.advisor.specs.Imports.{HeatCounts}

-- a count that is not 0
abbrev pub is_warm : ℕ → Bool
is_warm count = not (count == 0)

-- a granule that is counted, and whether it was accessed
pub record IsCounted (heat : HeatCounts) (blob at : ℕ) : Type 0 where
  pub blob_in : blob < length heat.blobs
  pub at_in : at < length (slice_index_or heat.blobs blob [])

abbrev pub warm_at : HeatCounts → ℕ → ℕ → Bool
warm_at heat blob at = is_warm (slice_index_or (slice_index_or heat.blobs blob []) at 0)

-- as many granules are counted as before; those were accessed that pass a test, and those that were before
pub record IsWarmed (old new : HeatCounts) (test : ℕ → ℕ → Bool) : Type 0 where
  pub granule : new.granule ≡ old.granule
  pub blobs : length new.blobs ≡ length old.blobs
  pub counts : (blob : ℕ) → blob < length old.blobs → length (slice_index_or new.blobs blob []) ≡ length (slice_index_or old.blobs blob [])
  pub warm : (blob at : ℕ) → IsCounted old blob at → warm_at new blob at ≡ (test blob at || warm_at old blob at)
