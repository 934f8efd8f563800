-- Counts from 0 on are numbers of entries.
use Rattle.views.proofs.Imports.{◌≡◌, ℕ, ◌+◌, ◌-◌, ◌^◌, min, Bool, true, false, cond, Option, Some, None, List, [], ◌∷◌, map, get_or, fold, refl, ap, sym, ◌∙◌, subst, arith, IfSome, count_by, if◌then◌else◌, ◌==◌, length-map, get_or-map, sum_by-cons, fold-map, Term, has_count, granule_of, Owner, LeafCounts, HeatCounts, counted, warmed, no_counts, no_heat, count-from_zero, heat-from_zero, Access, Read, Write, counts_touched, heat_touched, tallied, no_tally, blob_lengths, tallied-counts, tallied-heat, reads_leaf, writes_leaf, touches, AreCounts, AreHeat, AreEntries, option_map}

-- the leaves that are read, and those that are written
abbrev leaves_read : List Access → List ℕ
leaves_read [] = []
leaves_read (Read row leaf ∷ log) = leaf ∷ leaves_read log
leaves_read (Write row leaf ∷ log) = leaves_read log

abbrev leaves_written : List Access → List ℕ
leaves_written [] = []
leaves_written (Read row leaf ∷ log) = leaves_written log
leaves_written (Write row leaf ∷ log) = leaf ∷ leaves_written log

reads_are : (counts : LeafCounts) (log : List Access) → (fold (λ c a. counts_touched a c) counts log).reads ≡ fold counted counts.reads (leaves_read log)
reads_are counts [] = refl
reads_are counts (Read row leaf ∷ log) = reads_are (counts_touched (Read row leaf) counts) log
reads_are counts (Write row leaf ∷ log) = reads_are (counts_touched (Write row leaf) counts) log

writes_are : (counts : LeafCounts) (log : List Access) → (fold (λ c a. counts_touched a c) counts log).writes ≡ fold counted counts.writes (leaves_written log)
writes_are counts [] = refl
writes_are counts (Read row leaf ∷ log) = writes_are (counts_touched (Read row leaf) counts) log
writes_are counts (Write row leaf ∷ log) = writes_are (counts_touched (Write row leaf) counts) log

-- one entry more
one_more : {X : Type 0} (test : X → Bool) (x : X) (xs : List X) → count_by test (x ∷ xs) ≡ cond (test x) 1 0 + count_by test xs
one_more test x xs = sum_by-cons (λ y. cond (test y) 1 0) x xs

many_reads : (leaf : ℕ) (log : List Access) → count_by (λ other. other == leaf) (leaves_read log) ≡ count_by (reads_leaf leaf) log
many_reads leaf [] = refl
many_reads leaf (Read row other ∷ log) = one_more (λ o. o == leaf) other (leaves_read log) ∙ ap (λ n. cond (other == leaf) 1 0 + n) (many_reads leaf log) ∙ sym (one_more (reads_leaf leaf) (Read row other) log)
many_reads leaf (Write row other ∷ log) = grind (arith, count_by, (many_reads leaf log))

many_writes : (leaf : ℕ) (log : List Access) → count_by (λ other. other == leaf) (leaves_written log) ≡ count_by (writes_leaf leaf) log
many_writes leaf [] = refl
many_writes leaf (Read row other ∷ log) = grind (arith, count_by, (many_writes leaf log))
many_writes leaf (Write row other ∷ log) = one_more (λ o. o == leaf) other (leaves_written log) ∙ ap (λ n. cond (other == leaf) 1 0 + n) (many_writes leaf log) ∙ sym (one_more (writes_leaf leaf) (Write row other) log)

counts_are : (leaves : ℕ) (log : List Access) → AreCounts leaves log (fold (λ c a. counts_touched a c) (no_counts leaves) log)
counts_are leaves log = record {
  reads = λ leaf small. ap (λ counts. get_or counts leaf 0) (reads_are (no_counts leaves) log) ∙ count-from_zero leaves (leaves_read log) leaf small ∙ ap (λ n. min n (2 ^ 64 - 1)) (many_reads leaf log);
  writes = λ leaf small. ap (λ counts. get_or counts leaf 0) (writes_are (no_counts leaves) log) ∙ count-from_zero leaves (leaves_written log) leaf small ∙ ap (λ n. min n (2 ^ 64 - 1)) (many_writes leaf log);
}

-- the granules that an access warms
abbrev warms : List (List Owner) → ℕ → Access → ℕ → ℕ → Bool
warms layout granule access blob at = touches layout granule blob at access

heat_is : (layout : List (List Owner)) (heat : HeatCounts) (log : List Access) →
    fold (λ h a. heat_touched layout a h) heat log ≡ record heat { blobs = fold (λ blobs hot. warmed hot blobs) heat.blobs (map (warms layout heat.granule) log) }
heat_is layout heat [] = refl
heat_is layout heat (Read row leaf ∷ log) = heat_is layout (heat_touched layout (Read row leaf) heat) log
heat_is layout heat (Write row leaf ∷ log) = heat_is layout (heat_touched layout (Write row leaf) heat) log

heat_are : (layout : List (List Owner)) (granule : ℕ) (log : List Access) → AreHeat layout log (fold (λ h a. heat_touched layout a h) (no_heat granule (blob_lengths layout)) log)
heat_are layout granule log = grind (arith, heat_is, length-map, get_or-map, heat-from_zero, fold-map)

pub are_entries : (term : Term) (layout : List (List Owner)) (leaves : ℕ) (log : List Access) → AreEntries layout leaves log (tallied layout (no_tally term layout leaves) log)
unfolding tallied
are_entries term layout leaves log = record {
  counts = subst (λ (counts : Option LeafCounts). IfSome counts (AreCounts leaves log)) (sym (tallied-counts layout (no_tally term layout leaves) log)) (of_count (has_count term));
  heat = subst (λ (heat : Option HeatCounts). IfSome heat (AreHeat layout log)) (sym (tallied-heat layout (no_tally term layout leaves) log)) (of_granule (granule_of term));
} where
  of_count : (test : Bool) → IfSome (option_map (λ counts. fold (λ c a. counts_touched a c) counts log) (if test then Some (no_counts leaves) else None)) (AreCounts leaves log)
  of_count true = counts_are leaves log
  of_count false = tt

  of_granule : (granule : Option ℕ) → IfSome (option_map (λ heat. fold (λ h a. heat_touched layout a h) heat log) (option_map (λ g. no_heat g (blob_lengths layout)) granule)) (AreHeat layout log)
  of_granule granule = grind (arith, heat_are)
