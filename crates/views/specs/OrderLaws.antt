-- The order of accesses carries no meaning: what is counted of some is counted of them in any order.
use Rattle.std.specs.Prelude.{◌≡◌, ℕ, zero, suc, ◌+◌, Bool, List, [], ◌∷◌, ◌++◌, map, refl, Option, option_map, if◌then◌else◌}
use Rattle.views.specs.Imports.{append_assoc, ap, sym, ◌∙◌, flat_map, enumerate_from, append-nil, flat_map-cons, arith, fold, Owner, is_hot, LeafCounts, HeatCounts, counted, next, warmed_blob}
use Rattle.views.specs.Tallies.{Access, Read, Write, Tally, granules_touched, counts_touched, heat_touched, after_access, tallied}
use Rattle.views.specs.TallyLaws.{tallied-append}

-- two counts by leaf
counted_both : (counts : List ℕ) (one other : ℕ) → counted (counted counts one) other ≡ counted (counted counts other) one
counted_both [] one other = refl
counted_both (count ∷ counts) zero zero = refl
counted_both (count ∷ counts) zero (suc other) = refl
counted_both (count ∷ counts) (suc one) zero = refl
counted_both (count ∷ counts) (suc one) (suc other) = ap (λ (rest : List ℕ). count ∷ rest) (counted_both counts one other)

pub leaves_both : (one other : Access) (counts : LeafCounts) → counts_touched other (counts_touched one counts) ≡ counts_touched one (counts_touched other counts)
leaves_both one other counts = grind (arith, counted_both)

-- two counts by granule
chosen_both : (one other : Bool) (count : ℕ) → (if other then next (if one then next count else count) else (if one then next count else count))
    ≡ (if one then next (if other then next count else count) else (if other then next count else count))
chosen_both one other count = grind arith

warm_from : (ℕ → Bool) → ℕ → List ℕ → List ℕ
warm_from hot first counts = map (λ (at : ℕ × ℕ). if hot at.0 then next at.1 else at.1) (enumerate_from first counts)

blob_both : (one other : ℕ → Bool) (first : ℕ) (counts : List ℕ) → warm_from other first (warm_from one first counts) ≡ warm_from one first (warm_from other first counts)
unfolding warm_from
blob_both one other first [] = refl
blob_both one other first (count ∷ counts) = rw (chosen_both (one first) (other first) count, blob_both one other (first + 1) counts) refl

blobs_from : (ℕ → ℕ → Bool) → ℕ → List (List ℕ) → List (List ℕ)
blobs_from hot first blobs = map (λ (blob : ℕ × List ℕ). warmed_blob 1 (hot blob.0) blob.1) (enumerate_from first blobs)

blobs_both : (one other : ℕ → ℕ → Bool) (first : ℕ) (blobs : List (List ℕ)) → blobs_from other first (blobs_from one first blobs) ≡ blobs_from one first (blobs_from other first blobs)
unfolding blobs_from warm_from
blobs_both one other first [] = refl
blobs_both one other first (counts ∷ blobs) = rw (blob_both (one first) (other first) 0 counts, blobs_both one other (first + 1) blobs) refl

granules_both : (layout : List (List Owner)) (row leaf more last : ℕ) (heat : HeatCounts)
    → granules_touched layout more last (granules_touched layout row leaf heat) ≡ granules_touched layout row leaf (granules_touched layout more last heat)
unfolding blobs_from
granules_both layout row leaf more last heat =
    ap (λ (blobs : List (List ℕ)). record heat { blobs = blobs })
    (blobs_both (is_hot layout heat.granule row leaf) (is_hot layout heat.granule more last) 0 heat.blobs)

pub heated_both : (layout : List (List Owner)) (one other : Access) (heat : HeatCounts)
    → heat_touched layout other (heat_touched layout one heat) ≡ heat_touched layout one (heat_touched layout other heat)
heated_both layout (Read row leaf) (Read more last) heat = granules_both layout row leaf more last heat
heated_both layout (Read row leaf) (Write more last) heat = granules_both layout row leaf more last heat
heated_both layout (Write row leaf) (Read more last) heat = granules_both layout row leaf more last heat
heated_both layout (Write row leaf) (Write more last) heat = granules_both layout row leaf more last heat

-- two accesses
counts_both : (one other : Access) (counts : Option LeafCounts)
    → option_map (counts_touched other) (option_map (counts_touched one) counts) ≡ option_map (counts_touched one) (option_map (counts_touched other) counts)
counts_both one other counts = grind (arith, leaves_both)

heats_both : (layout : List (List Owner)) (one other : Access) (heat : Option HeatCounts)
    → option_map (heat_touched layout other) (option_map (heat_touched layout one) heat) ≡ option_map (heat_touched layout one) (option_map (heat_touched layout other) heat)
heats_both layout one other heat = grind (arith, heated_both)

touched_both : (layout : List (List Owner)) (tally : Tally) (one other : Access) → after_access layout (after_access layout tally one) other ≡ after_access layout (after_access layout tally other) one
touched_both layout tally one other =
    ap (λ (counts : Option LeafCounts). record { counts = counts; heat = option_map (heat_touched layout other) (option_map (heat_touched layout one) tally.heat) })
    (counts_both one other tally.counts)
    ∙ ap (λ (heat : Option HeatCounts). record { counts = option_map (counts_touched one) (option_map (counts_touched other) tally.counts); heat = heat }) (heats_both layout one other tally.heat)

-- an access before others or after them
one_later : (layout : List (List Owner)) (tally : Tally) (access : Access) (log : List Access) → tallied layout tally (log ++ access ∷ []) ≡ tallied layout (after_access layout tally access) log
unfolding tallied
one_later layout tally access [] = refl
one_later layout tally access (first ∷ log) =
    one_later layout (after_access layout tally first) access log ∙ ap (λ (t : Tally). fold (after_access layout) t log) (touched_both layout tally first access)

-- some accesses before others or after them
pub tallied-swap : (layout : List (List Owner)) (tally : Tally) (one other : List Access) → tallied layout tally (one ++ other) ≡ tallied layout tally (other ++ one)
unfolding tallied
tallied-swap layout tally [] other = ap (λ (log : List Access). tallied layout tally log) (sym (append-nil other))
tallied-swap layout tally (access ∷ one) other =
    tallied-swap layout (after_access layout tally access) one other
    ∙ sym (tallied-append layout (after_access layout tally access) other one)
    ∙ ap (λ (t : Tally). tallied layout t one) (sym (one_later layout tally access other))
    ∙ tallied-append layout tally (other ++ access ∷ []) one
    ∙ ap (λ (log : List Access). tallied layout tally log) (append_assoc other (access ∷ []) one)

-- the accesses of two kinds of some rows, row by row or kind by kind
pub swapped : (layout : List (List Owner)) (tally : Tally) (first second third : List Access)
    → tallied layout (tallied layout tally (first ++ second)) third ≡ tallied layout tally (first ++ (third ++ second))
swapped layout tally first second third = grind (arith, tallied-append, append_assoc, tallied-swap)

pub apart : (a b c d : List Access) → (a ++ (b ++ c)) ++ d ≡ (a ++ b) ++ (c ++ d)
apart a b c d = simp append_assoc

pub tallied-kinds : (layout : List (List Owner)) (tally : Tally) (one other : ℕ → List Access) (rows : List ℕ)
    → tallied layout tally (flat_map (λ row. one row ++ other row) rows) ≡ tallied layout tally (flat_map one rows ++ flat_map other rows)
tallied-kinds layout tally one other [] = refl
tallied-kinds layout tally one other (row ∷ rows) =
    let firsts = flat_map one rows in
    let seconds = flat_map other rows in
    let both = λ (r : ℕ). one r ++ other r in
    ap (λ (log : List Access). tallied layout tally log) (flat_map-cons both row rows)
    ∙ sym (tallied-append layout tally (one row ++ other row) (flat_map both rows))
    ∙ tallied-kinds layout (tallied layout tally (one row ++ other row)) one other rows
    ∙ sym (tallied-append layout (tallied layout tally (one row ++ other row)) firsts seconds)
    ∙ ap (λ (t : Tally). tallied layout t seconds) (swapped layout tally (one row) (other row) firsts)
    ∙ tallied-append layout tally (one row ++ (firsts ++ other row)) seconds
    ∙ ap (λ (log : List Access). tallied layout tally log) (apart (one row) firsts (other row) seconds)
    ∙ ap (λ (log : List Access). tallied layout tally (log ++ (other row ++ seconds))) (sym (flat_map-cons one row rows))
    ∙ ap (λ (log : List Access). tallied layout tally (flat_map one (row ∷ rows) ++ log)) (sym (flat_map-cons other row rows))
