-- The numbers that are shown: a count that began with 0 is the number of the entries that touch its place, or 2^64 - 1 where there are more.
use Rattle.std.specs.Prelude.{◌≡◌, ℕ, ◌+◌, ◌-◌, ◌^◌, ◌<◌, ◌≤◌, ◌==◌, min, Bool, List, [], ◌∷◌, length, replicate, get_or, slice_index, slice_index_or, if◌then◌else◌, cond}
use Rattle.std.specs.List.{fold, count_by}
use Rattle.record_dim.specs.Std.{ap, ◌∙◌, arith, ⊎_elim, cases_Bool, cases_eq, eq-eqb, ne_eqb, length-set, length-map, length-replicate, get_or-set_same, get_or-set_other, get_or-replicate, get_or-map, sum_by-cons}
use Rattle.instrument.specs.Counters.{next, counted, granules_of, no_heat, warmed}
use Rattle.instrument.specs.WarmingLaws.{length-warmed, length-heated, get-warmed, get-warmed_blob}

capped_none : (count : ℕ) → count ≤ 2 ^ 64 - 1 → count ≡ min (count + 0) (2 ^ 64 - 1)
capped_none count bound = omega arith

from_zero : (number : ℕ) → min (0 + number) (2 ^ 64 - 1) ≡ min number (2 ^ 64 - 1)
from_zero number = omega arith

-- an entry touches a place or does not
counts_by : {X : Type 0} (touches : X → Bool) (entry : X) (entries : List X) (count new : ℕ) → new ≡ (if touches entry then next count else count)
    → min (new + count_by touches entries) (2 ^ 64 - 1) ≡ min (count + count_by touches (entry ∷ entries)) (2 ^ 64 - 1)
counts_by touches entry entries count new is =
    let more = sum_by-cons (λ x. cond (touches x) 1 0) entry entries in grind (arith, ⊎_elim, count_by, cases_Bool)

new_bound : (touched : Bool) (count new : ℕ) → count ≤ 2 ^ 64 - 1 → new ≡ (if touched then next count else count) → new ≤ 2 ^ 64 - 1
new_bound touched count new bound is = grind arith

-- a place after one touch of some place
counted_at : (counts : List ℕ) (touch place : ℕ) → place < length counts
    → get_or (counted counts touch) place 0 ≡ (if touch == place then next (get_or counts place 0) else get_or counts place 0)
counted_at counts touch place small = grind (arith, ⊎_elim, get_or, get_or-set_same, eq-eqb, get_or-set_other, ne_eqb, cases_eq)

counted_long : (counts : List ℕ) (touch : ℕ) → length (counted counts touch) ≡ length counts
counted_long counts touch = length-set counts touch (next (get_or counts touch 0))

-- any count is the one before and the number of the entries that touch its place, up to the end of its type
pub count-after : (touches counts : List ℕ) (leaf : ℕ) → leaf < length counts → get_or counts leaf 0 ≤ 2 ^ 64 - 1
    → slice_index (fold counted counts touches) leaf ≡ min (slice_index counts leaf + count_by (λ touch. touch == leaf) touches) (2 ^ 64 - 1)
count-after [] counts leaf small bound = capped_none (get_or counts leaf 0) bound
count-after (touch ∷ touches) counts leaf small bound =
    let new = counted_at counts touch leaf small in
    count-after touches (counted counts touch) leaf (omega (arith, counted_long counts touch)) (new_bound (touch == leaf) (get_or counts leaf 0) (get_or (counted counts touch) leaf 0) bound new)
    ∙ counts_by (λ touch. touch == leaf) touch touches (get_or counts leaf 0) (get_or (counted counts touch) leaf 0) new

-- the count of a leaf is the number of the entries that touch it, or 2^64 - 1 where there are more
pub count-from_zero : (leaves : ℕ) (touches : List ℕ) (leaf : ℕ) → leaf < leaves
    → slice_index (fold counted (replicate leaves 0) touches) leaf ≡ min (count_by (λ touch. touch == leaf) touches) (2 ^ 64 - 1)
count-from_zero leaves touches leaf small = grind (arith, get_or, get_or-replicate, count-after, length-replicate, count_by, from_zero)

-- a granule after one access
warmed_at : (hot : ℕ → ℕ → Bool) (blobs : List (List ℕ)) (blob at : ℕ) → blob < length blobs → at < length (get_or blobs blob [])
    → get_or (get_or (warmed hot blobs) blob []) at 0 ≡ (if hot blob at then next (get_or (get_or blobs blob []) at 0) else get_or (get_or blobs blob []) at 0)
warmed_at hot blobs blob at blob_in at_in = ap (λ counts. get_or counts at 0) (get-warmed 1 hot blobs blob blob_in) ∙ get-warmed_blob 1 (hot blob) (get_or blobs blob []) at at_in

-- the same for a granule, where each access is the test of the granules that it touches
pub heat-after : (accesses : List (ℕ → ℕ → Bool)) (blobs : List (List ℕ)) (blob at : ℕ) → blob < length blobs → at < length (get_or blobs blob [])
    → get_or (get_or blobs blob []) at 0 ≤ 2 ^ 64 - 1
    → slice_index (slice_index_or (fold (λ blobs hot. warmed hot blobs) blobs accesses) blob []) at
    ≡ min (slice_index (slice_index_or blobs blob []) at + count_by (λ hot. hot blob at) accesses) (2 ^ 64 - 1)
heat-after [] blobs blob at blob_in at_in bound = capped_none (get_or (get_or blobs blob []) at 0) bound
heat-after (hot ∷ accesses) blobs blob at blob_in at_in bound =
    let count = get_or (get_or blobs blob []) at 0 in
    let new = warmed_at hot blobs blob at blob_in at_in in
    heat-after accesses (warmed hot blobs) blob at (omega (arith, length-warmed 1 hot blobs)) (omega (arith, length-heated 1 hot blobs blob blob_in))
    (new_bound (hot blob at) count (get_or (get_or (warmed hot blobs) blob []) at 0) bound new)
    ∙ counts_by (λ hot. hot blob at) hot accesses count (get_or (get_or (warmed hot blobs) blob []) at 0) new

-- the number of a granule is that of the accesses that touch it, or 2^64 - 1 where there are more
pub heat-from_zero : (granule : ℕ) (bytes : List ℕ) (accesses : List (ℕ → ℕ → Bool)) (blob at : ℕ) → blob < length bytes → at < granules_of granule (slice_index bytes blob)
    → slice_index (slice_index_or (fold (λ blobs hot. warmed hot blobs) (no_heat granule bytes).blobs accesses) blob []) at
    ≡ min (count_by (λ hot. hot blob at) accesses) (2 ^ 64 - 1)
heat-from_zero granule bytes accesses blob at blob_in at_in = grind (arith, get_or, get_or-map, get_or-replicate, length-replicate, length-map, heat-after, count_by, from_zero)
