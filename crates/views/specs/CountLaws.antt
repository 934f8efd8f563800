-- The counts of a view: what accesses leave of their form, and where they leave all.
use Rattle.std.specs.Prelude.{◌≡◌, ℕ, ◌+◌, ◌*◌, ◌/◌, ◌%◌, ◌<◌, ◌≤◌, false, List, [], ◌∷◌, length, get_or, map, All, Option, Some, None, refl, Bool, is_some, option_map, IfSome, if◌then◌else◌}
use Rattle.views.specs.Imports.{sym, ap, ◌∙◌, arith, enumerate_from, true≢false, length-map, length-set, length-replicate, get_or-map, mul_assoc, Term, has_count, granule_of, is_counted, Piece, Owner, IsPiece, is_hot, Counts, Heats, leaf_counts, heat_counts, no_counts, no_heat, LeafCounts, HeatCounts, granules_of, warmed_blob, HasLeaves, IsInside, length-warmed_blob, bytes-in_granules}
use Rattle.views.specs.Tallies.{Access, Tally, counts_touched, heat_touched, after_access, tallied, no_tally, blob_lengths}
use Rattle.views.specs.Inner.Repeated.{leaf_raised, granules_raised}
use Rattle.views.specs.ViewFields.{HasGranules, IsTallied, tally_of}

-- counts of leaves
counted_leaves : (access : Access) (counts : LeafCounts) (leaves : ℕ) → HasLeaves counts leaves → HasLeaves (counts_touched access counts) leaves
counted_leaves access counts leaves has = grind (arith, length-set)

pub raised_leaves : (write : Bool) (times leaf : ℕ) (counts : LeafCounts) (leaves : ℕ) → HasLeaves counts leaves → HasLeaves (leaf_raised times write leaf counts) leaves
raised_leaves write times leaf counts leaves has = grind (arith, length-set)

leaves_kept : (access : Access) (counts : Option LeafCounts) (leaves : ℕ) → IfSome counts (λ c. HasLeaves c leaves) → IfSome (option_map (counts_touched access) counts) (λ c. HasLeaves c leaves)
leaves_kept access counts leaves has = grind (arith, counted_leaves)

some_kept : {A B : Type 0} (f : A → B) (o : Option A) → is_some (option_map f o) ≡ is_some o
some_kept f o = grind arith

-- counts of granules
lengths_from : (times : ℕ) (hot : ℕ → ℕ → _) (n : ℕ) (blobs : List (List ℕ))
    → map (length {A = ℕ}) (map (λ (blob : ℕ × List ℕ). warmed_blob times (hot blob.0) blob.1) (enumerate_from n blobs)) ≡ map (length {A = ℕ}) blobs
lengths_from times hot n [] = refl
lengths_from times hot n (counts ∷ blobs) = grind (arith, enumerate_from, length-warmed_blob, (lengths_from times hot (n + 1) blobs))

heated_granules : (layout : List (List Owner)) (access : Access) (heat : HeatCounts) → HasGranules layout heat → HasGranules layout (heat_touched layout access heat)
heated_granules layout access heat has = grind (arith, lengths_from)

pub raised_granules : (layout : List (List Owner)) (times row leaf : ℕ) (heat : HeatCounts) → HasGranules layout heat → HasGranules layout (granules_raised times layout row leaf heat)
raised_granules layout times row leaf heat has = lengths_from times (is_hot layout heat.granule row leaf) 0 heat.blobs ∙ has

granules_kept : (layout : List (List Owner)) (access : Access) (heat : Option HeatCounts)
    → IfSome heat (HasGranules layout) → IfSome (option_map (heat_touched layout access) heat) (HasGranules layout)
granules_kept layout access heat has = grind (arith, heated_granules)

granule_kept : (layout : List (List Owner)) (access : Access) (heat : Option HeatCounts) →
    option_map (λ (h : HeatCounts). h.granule) (option_map (heat_touched layout access) heat) ≡ option_map (λ (h : HeatCounts). h.granule) heat
granule_kept layout access heat = grind arith

-- an access leaves as many counts
pub tallied_kept : {term : Term} {layout : List (List Owner)} {leaves : ℕ} {tally : Tally} (access : Access)
    → IsTallied term layout leaves tally → IsTallied term layout leaves (after_access layout tally access)
tallied_kept {term} {layout} {leaves} {tally} access has = record {
  counted = some_kept (counts_touched access) tally.counts ∙ has.counted;
  each_leaf = leaves_kept access tally.counts leaves has.each_leaf;
  granule = granule_kept layout access tally.heat ∙ has.granule;
  each_blob = granules_kept layout access tally.heat has.each_blob;
}

-- one access
pub tallied-one : (layout : List (List Owner)) (tally : Tally) (access : Access) → tallied layout tally (access ∷ []) ≡ after_access layout tally access
unfolding tallied
tallied-one layout tally access = refl

pub none_of : {A : Type 0} (o : Option A) → is_some o ≡ false → o ≡ None
none_of o e = grind (arith, true≢false)

none_mapped : {A B : Type 0} (f : A → B) (o : Option A) → option_map f o ≡ None → o ≡ None
none_mapped f o e = grind arith

-- so accesses leave it all
pub idle_touched : (layout : List (List Owner)) (tally : Tally) (access : Access) → tally.counts ≡ None → tally.heat ≡ None → after_access layout tally access ≡ tally
idle_touched layout tally access counts heat = grind (arith, option_map)

pub idle_log : (layout : List (List Owner)) (tally : Tally) (log : List Access) → tally.counts ≡ None → tally.heat ≡ None → tallied layout tally log ≡ tally
unfolding tallied
idle_log layout tally [] counts heat = refl
idle_log layout tally (access ∷ log) counts heat = grind (arith, idle_touched, (idle_log layout tally log counts heat))

pub idle_logged : {term : Term} {layout : List (List Owner)} {leaves : ℕ} {tally : Tally} (log : List Access)
    → is_counted term ≡ false → IsTallied term layout leaves tally → tallied layout tally log ≡ tally
idle_logged {term} {layout} {leaves} {tally} log idle has = grind (arith, idle_log, none_of, none_mapped)

-- accesses leave as many counts
pub log_kept : {term : Term} {layout : List (List Owner)} {leaves : ℕ} (tally : Tally) (log : List Access)
    → IsTallied term layout leaves tally → IsTallied term layout leaves (tallied layout tally log)
unfolding tallied
log_kept tally [] has = has
log_kept {term} {layout} {leaves} tally (access ∷ log) has = log_kept (after_access layout tally access) log (tallied_kept access has)

-- the granules of a blob
whole_bytes : (bits : ℕ) → bits % 8 ≡ 0 → 8 * (bits / 8) ≡ bits
whole_bytes bits e = omega arith

pub blob_granules : (layout : List (List Owner)) (heat : HeatCounts) → HasGranules layout heat →
    (length heat.blobs ≡ length layout) × ((b : ℕ) → b < length layout → length (get_or heat.blobs b []) ≡ granules_of heat.granule (length (get_or layout b []) / 8))
blob_granules layout heat has =
    let bytes = λ (blob : List Owner). length blob / 8 in
    let many : length heat.blobs ≡ length layout =
    sym (length-map heat.blobs (length {A = ℕ})) ∙ ap (length {A = ℕ}) has ∙ length-map (blob_lengths layout) (granules_of heat.granule) ∙ length-map layout bytes in (
      many,
      λ b small.
          (let in_lengths : b < length (blob_lengths layout) = omega (arith, length-map layout bytes) in
          sym (get_or-map (length {A = ℕ}) heat.blobs b [] 0 (omega arith)) ∙ ap (λ (w : List ℕ). get_or w b 0) has
          ∙ get_or-map (granules_of heat.granule) (blob_lengths layout) b 0 0 in_lengths ∙ ap (granules_of heat.granule) (get_or-map bytes layout b [] 0 small)),
    )

-- a piece of the layout lies in granules that are counted
pub piece_inside : (layout : List (List Owner)) (heat : HeatCounts) (piece : Piece) → 1 ≤ heat.granule → All (λ (blob : List Owner). length blob % 8 ≡ 0) layout
    → HasGranules layout heat → IsPiece layout piece → IsInside heat piece
piece_inside layout heat piece some whole has at = grind (arith, blob_granules, whole_bytes, bytes-in_granules, mul_assoc)

-- the counts of no access
some_if : {A : Type 0} (test : Bool) (x : A) → is_some (if test then Some x else None) ≡ test
some_if test x = grind arith

leaves_if : (test : Bool) (leaves : ℕ) → IfSome (if test then Some (no_counts leaves) else None) (λ c. HasLeaves c leaves)
leaves_if test leaves = grind (arith, length-replicate)

granule_new : (bytes : List ℕ) (granule : Option ℕ) → option_map (λ (h : HeatCounts). h.granule) (option_map (λ g. no_heat g bytes) granule) ≡ granule
granule_new bytes granule = grind arith

lengths_new : (granule : ℕ) (bytes : List ℕ) → map (length {A = ℕ}) (no_heat granule bytes).blobs ≡ map (granules_of granule) bytes
lengths_new granule [] = refl
lengths_new granule (len ∷ bytes) = grind (arith, length-replicate, (lengths_new granule bytes))

granules_new : (layout : List (List Owner)) (granule : Option ℕ) → IfSome (option_map (λ g. no_heat g (blob_lengths layout)) granule) (HasGranules layout)
granules_new layout granule = grind (arith, lengths_new)

pub no_tally-tallied : (term : Term) (layout : List (List Owner)) (leaves : ℕ) → IsTallied term layout leaves (no_tally term layout leaves)
no_tally-tallied term layout leaves = grind (arith, some_if, leaves_if, granule_new, granules_new)

-- what was made for an expression is the tally of its copy
pub new_tally : {term copy : Term} {mapped layout : List (List Owner)} {many leaves : ℕ} (counts : Option Counts) (heat : Option Heats) → copy ≡ term → mapped ≡ layout → many ≡ leaves
    → option_map leaf_counts counts ≡ (if has_count term then Some (no_counts many) else None)
    → option_map heat_counts heat ≡ option_map (λ granule. no_heat granule (blob_lengths mapped)) (granule_of term) → tally_of counts heat ≡ no_tally copy layout leaves
new_tally {term} {copy} {mapped} {layout} {many} {leaves} counts heat terms layouts same no_count no_heats = grind (arith, option_map)
