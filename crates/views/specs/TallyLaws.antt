-- Accesses one after another, and the logs of rows and leaves in order.
use Rattle.std.specs.Prelude.{◌≡◌, ℕ, ◌+◌, ℤ, List, [], ◌∷◌, ◌++◌, map, refl, Option, Some, None, option_map}
use Rattle.views.specs.Imports.{ap, sym, ◌∙◌, arith, flat_map, range_with_len, append-nil, fold-append, flat_map-append, flat_map-cons, map-range_with_len_more, fold, Owner, LeafCounts, HeatCounts}
use Rattle.views.specs.Tallies.{Access, Read, Tally, counts_touched, heat_touched, after_access, tallied}
use Rattle.views.specs.Tables.{Table, owners_of, after_log, after_stores, after_read}

-- no access counts nothing
pub tallied-none : (layout : List (List Owner)) (tally : Tally) → tallied layout tally [] ≡ tally
unfolding tallied
tallied-none layout tally = refl

-- accesses after others
pub tallied-append : (layout : List (List Owner)) (tally : Tally) (log more : List Access) → tallied layout (tallied layout tally log) more ≡ tallied layout tally (log ++ more)
unfolding tallied
tallied-append layout tally log more = sym (fold-append (after_access layout) tally log more)

pub after_log-none : (table : Table) → after_log table [] ≡ table
after_log-none table = ap (λ (tally : Tally). record table { tally = tally }) (tallied-none (owners_of table) table.tally)

pub after_log-append : (table : Table) (log more : List Access) → after_log (after_log table log) more ≡ after_log table (log ++ more)
after_log-append table log more = ap (λ (tally : Tally). record table { tally = tally }) (tallied-append (owners_of table) table.tally log more)

-- stores after others
pub after_stores-append : (table : Table) (first second : List (List ℤ)) (log more : List Access) → after_stores (after_stores table first log) second more ≡ after_stores table second (log ++ more)
after_stores-append table first second log more = ap (λ (tally : Tally). record table { rows = second; tally = tally }) (tallied-append (owners_of table) table.tally log more)

-- the counts by leaf are counted alone, however the bits lie
pub tallied-counts : (layout : List (List Owner)) (tally : Tally) (log : List Access)
    → (tallied layout tally log).counts ≡ option_map (λ (counts : LeafCounts). fold (λ c access. counts_touched access c) counts log) tally.counts
unfolding tallied
tallied-counts layout tally [] = same tally.counts where
  same : (counts : Option LeafCounts) → counts ≡ option_map (λ c. c) counts
  same None = refl
  same (Some counts) = refl
tallied-counts layout tally (access ∷ log) = tallied-counts layout (after_access layout tally access) log ∙ once tally.counts where
  once : (counts : Option LeafCounts) → option_map (λ (counts : LeafCounts). fold (λ c a. counts_touched a c) counts log) (option_map (counts_touched access) counts)
      ≡ option_map (λ (counts : LeafCounts). fold (λ c a. counts_touched a c) counts (access ∷ log)) counts
  once None = refl
  once (Some counts) = refl

-- and so are those by granule
pub tallied-heat : (layout : List (List Owner)) (tally : Tally) (log : List Access)
    → (tallied layout tally log).heat ≡ option_map (λ (heat : HeatCounts). fold (λ h access. heat_touched layout access h) heat log) tally.heat
unfolding tallied
tallied-heat layout tally [] = same tally.heat where
  same : (heat : Option HeatCounts) → heat ≡ option_map (λ h. h) heat
  same None = refl
  same (Some heat) = refl
tallied-heat layout tally (access ∷ log) = tallied-heat layout (after_access layout tally access) log ∙ once tally.heat where
  once : (heat : Option HeatCounts) → option_map (λ (heat : HeatCounts). fold (λ h a. heat_touched layout a h) heat log) (option_map (heat_touched layout access) heat)
      ≡ option_map (λ (heat : HeatCounts). fold (λ h a. heat_touched layout a h) heat (access ∷ log)) heat
  once None = refl
  once (Some heat) = refl

-- reads of leaves of one row, one after another
pub after_reads : (row : ℕ) (table : Table) (leaves : List ℕ) → fold (λ (s : Table) leaf. after_read s row leaf) table leaves ≡ after_log table (map (Read row) leaves)
after_reads row table [] = sym (after_log-none table)
after_reads row table (leaf ∷ leaves) = after_reads row (after_read table row leaf) leaves ∙ after_log-append table (Read row leaf ∷ []) (map (Read row) leaves)

-- one number more
pub range_more : (first n at : ℕ) → first + n ≡ at → range_with_len first (n + 1) ≡ range_with_len first n ++ at ∷ []
range_more first n at is =
    sym (same (range_with_len first (n + 1))) ∙ map-range_with_len_more (λ k. k) first n at is
    ∙ ap (λ (ns : List ℕ). ns ++ at ∷ []) (same (range_with_len first n)) where
      same : (ns : List ℕ) → map (λ (k : ℕ). k) ns ≡ ns
      same [] = refl
      same (k ∷ ns) = ap (λ (more : List ℕ). k ∷ more) (same ns)

-- the logs of the first so many rows or leaves, and of one more
pub logs_more : {A : Type 0} (logs : ℕ → List A) (count : ℕ) → flat_map logs (range_with_len 0 (count + 1)) ≡ flat_map logs (range_with_len 0 count) ++ logs count
logs_more logs count =
    ap (flat_map logs) (range_more 0 count count (omega arith)) ∙ flat_map-append logs (range_with_len 0 count) (count ∷ [])
    ∙ ap (λ (log : List _). flat_map logs (range_with_len 0 count) ++ log) (flat_map-cons logs count [] ∙ append-nil (logs count))

pub accesses_more : {A : Type 0} (access : ℕ → A) (count : ℕ) → map access (range_with_len 0 (count + 1)) ≡ map access (range_with_len 0 count) ++ access count ∷ []
accesses_more access count = map-range_with_len_more access 0 count count (omega arith)
