-- Many more at once are as many one after another.
use Rattle.std.specs.Prelude.{◌≡◌, ℕ, zero, suc, ◌+◌, ◌-◌, ◌^◌, min, Bool, List, [], ◌∷◌, map, if◌then◌else◌, refl}
use Rattle.record_dim.specs.Std.{enumerate_from, ap, arith, fun_ext}
use Rattle.instrument.specs.Counters.{raised, counted_times, warmed_blob, warmed_times}

-- more, and then more again
raised-raised : (first more count : ℕ) → raised more (raised first count) ≡ raised (first + more) count
raised-raised first more count = omega arith

pub counted-counted : (counts : List ℕ) (place first more : ℕ) → counted_times (counted_times counts place first) place more ≡ counted_times counts place (first + more)
counted-counted [] place first more = refl
counted-counted (count ∷ counts) zero first more = ap (λ (new : ℕ). new ∷ counts) (raised-raised first more count)
counted-counted (count ∷ counts) (suc place) first more = ap (λ (rest : List ℕ). count ∷ rest) (counted-counted counts place first more)

blob_again : (hot : ℕ → Bool) (first more n : ℕ) (counts : List ℕ)
    → map (λ (at : ℕ × ℕ). if hot at.0 then raised more at.1 else at.1) (enumerate_from n (map (λ (at : ℕ × ℕ). if hot at.0 then raised first at.1 else at.1) (enumerate_from n counts)))
    ≡ map (λ (at : ℕ × ℕ). if hot at.0 then raised (first + more) at.1 else at.1) (enumerate_from n counts)
blob_again hot first more n [] = refl
blob_again hot first more n (count ∷ counts) = grind (arith, (blob_again hot first more (n + 1) counts))

blobs_again : (hot : ℕ → ℕ → Bool) (first more n : ℕ) (blobs : List (List ℕ))
    → map (λ (blob : ℕ × List ℕ). warmed_blob more (hot blob.0) blob.1) (enumerate_from n (map (λ (blob : ℕ × List ℕ). warmed_blob first (hot blob.0) blob.1) (enumerate_from n blobs)))
    ≡ map (λ (blob : ℕ × List ℕ). warmed_blob (first + more) (hot blob.0) blob.1) (enumerate_from n blobs)
blobs_again hot first more n [] = refl
blobs_again hot first more n (counts ∷ blobs) = grind (arith, blob_again, (blobs_again hot first more (n + 1) blobs))

pub warmed-warmed : (hot : ℕ → ℕ → Bool) (first more : ℕ) (blobs : List (List ℕ)) → warmed_times more hot (warmed_times first hot blobs) ≡ warmed_times (first + more) hot blobs
warmed-warmed hot first more blobs = blobs_again hot first more 0 blobs

-- more than the end of its type are as many as that
pub raised-capped : (times : ℕ) → raised (min times (2 ^ 64 - 1)) ≡ raised times
raised-capped times = fun_ext (λ count. capped count) where
  capped : (count : ℕ) → raised (min times (2 ^ 64 - 1)) count ≡ raised times count
  capped count = omega arith
