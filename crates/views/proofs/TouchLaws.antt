-- One access, and the same accesses again and again.
use Rattle.views.proofs.Imports.{◌≡◌, ℕ, zero, suc, ◌+◌, ◌*◌, ◌-◌, ◌^◌, ◌<◌, min, List, ◌++◌, length, map, Bool, true, false, Option, refl, ap, sym, ◌∙◌, arith, IfSome, if◌then◌else◌, slice_set, enumerate_from, range_with_len, fun_ext, fold-map, fold-append, Owner, is_hot, LeafCounts, HeatCounts, HasLeaves, counted-counted, warmed-warmed, raised-capped, Access, Read, Write, Tally, counts_touched, heat_touched, after_access, tallied, leaf_touched, granules_touched, access_to, row_accesses, all_accesses, times_accesses, all_touches, counts_after, heat_after, leaf_raised, leaves_raised, granules_raised, row_raised, rows_raised, tallied-counts, tallied-heat, leaves_both, heated_both, copies, copies_add, copies_copies, fold-same, fold-flat_map, many, fold-copies, option_map, slice_index, fold}

-- the counters after one access
pub touched_both : (layout : List (List Owner)) (write : Bool) (row leaf : ℕ) (tally : Tally) (counts : Option LeafCounts) (heat : Option HeatCounts)
    → counts ≡ option_map (leaf_touched write leaf) tally.counts → heat ≡ option_map (granules_touched layout row leaf) tally.heat
    → (let t : Tally = record { counts = counts; heat = heat } in t) ≡ after_access layout tally (access_to write row leaf)
touched_both layout write row leaf tally counts heat one two = grind (arith, option_map)

-- and after some, and then others
then_counts : (one other : List Access) (counts : Option LeafCounts) → option_map (counts_after other) (option_map (counts_after one) counts) ≡ option_map (counts_after (one ++ other)) counts
then_counts one other counts = grind (arith, fold-append)

pub tallied_both : (layout : List (List Owner)) (tally : Tally) (one other : List Access) (middle counts : Option LeafCounts) (heat : Option HeatCounts)
    → middle ≡ option_map (counts_after one) tally.counts → counts ≡ option_map (counts_after other) middle → heat ≡ option_map (heat_after layout (one ++ other)) tally.heat
    → (let t : Tally = record { counts = counts; heat = heat } in t) ≡ tallied layout tally (one ++ other)
tallied_both layout tally one other middle counts heat first second both = grind (arith, option_map, then_counts, tallied-counts, tallied-heat)

-- a leaf has its counts
pub leaf_inside : (counts : Option LeafCounts) (leaf leaves : ℕ) → IfSome counts (λ c. HasLeaves c leaves) → leaf < leaves → IfSome counts (λ c. (leaf < length c.reads) × (leaf < length c.writes))
leaf_inside counts leaf leaves has inside = grind arith

-- the same access so many times is one that counts so many
abbrev by_leaf : LeafCounts → Access → LeafCounts
by_leaf counts access = counts_touched access counts

many_counts : (write : Bool) (times row leaf : ℕ) (counts : LeafCounts) → many by_leaf (suc times) counts (access_to write row leaf) ≡ leaf_raised (suc times) write leaf counts
many_counts false zero row leaf counts = refl
many_counts true zero row leaf counts = refl
many_counts false (suc times) row leaf counts = grind (arith, counted-counted, (many_counts false times row leaf (leaf_touched false leaf counts)))
many_counts true (suc times) row leaf counts = grind (arith, counted-counted, (many_counts true times row leaf (leaf_touched true leaf counts)))

-- which row it was leaves no trace in the counts by leaf
same_row : (write : Bool) (leaves row : ℕ) (counts : LeafCounts) → counts_after (row_accesses (access_to write) leaves row) counts ≡ counts_after (row_accesses (access_to write) leaves 0) counts
same_row false leaves row counts = fold-map by_leaf (Read row) counts (range_with_len 0 leaves) ∙ sym (fold-map by_leaf (Read 0) counts (range_with_len 0 leaves))
same_row true leaves row counts = fold-map by_leaf (Write row) counts (range_with_len 0 leaves) ∙ sym (fold-map by_leaf (Write 0) counts (range_with_len 0 leaves))

row_copies : (write : Bool) (times leaves rows : ℕ) (counts : LeafCounts)
    → counts_after (times_accesses (access_to write) times leaves rows) counts ≡ counts_after (copies (row_accesses (access_to write) leaves 0) (rows * times)) counts
row_copies write times leaves rows counts = grind (arith, fold-same, same_row, range_with_len, copies_copies)

row_raised_once : (write : Bool) (times leaves : ℕ) (counts : LeafCounts) → 0 < times
    → counts_after (copies (row_accesses (access_to write) leaves 0) times) counts ≡ leaves_raised times write leaves counts
row_raised_once write times leaves counts some = grind (arith, fold-copies, leaves_both, fold-map, range_with_len, fun_ext, many_counts)

leaves_capped : (write : Bool) (times leaves : ℕ) (counts : LeafCounts) → leaves_raised (min times (2 ^ 64 - 1)) write leaves counts ≡ leaves_raised times write leaves counts
leaves_capped write times leaves counts = grind (arith, slice_set, slice_index, range_with_len, raised-capped)

pub counts_none : (write : Bool) (times leaves rows : ℕ) (counts : LeafCounts) → rows * times ≡ 0 → counts ≡ counts_after (times_accesses (access_to write) times leaves rows) counts
counts_none write times leaves rows counts none = grind (arith, row_copies)

pub counts_raised : (write : Bool) (times leaves rows : ℕ) (counts : LeafCounts) → 0 < rows * times
    → leaves_raised (min (rows * times) (2 ^ 64 - 1)) write leaves counts ≡ counts_after (times_accesses (access_to write) times leaves rows) counts
counts_raised write times leaves rows counts some = grind (arith, leaves_capped, row_copies, row_raised_once)

-- the same for the counts by granule, which do not tell a read from a write
abbrev by_granule : List (List Owner) → HeatCounts → Access → HeatCounts
by_granule layout heat access = heat_touched layout access heat

many_heat : (layout : List (List Owner)) (times row leaf : ℕ) (heat : HeatCounts) → many (by_granule layout) (suc times) heat (Read row leaf) ≡ granules_raised (suc times) layout row leaf heat
many_heat layout zero row leaf heat = refl
many_heat layout (suc times) row leaf heat = grind (arith, warmed-warmed, (many_heat layout times row leaf (granules_touched layout row leaf heat)))

same_kind : (layout : List (List Owner)) (leaves row : ℕ) (heat : HeatCounts) → heat_after layout (row_accesses Write leaves row) heat ≡ heat_after layout (row_accesses Read leaves row) heat
same_kind layout leaves row heat = fold-map (by_granule layout) (Write row) heat (range_with_len 0 leaves) ∙ sym (fold-map (by_granule layout) (Read row) heat (range_with_len 0 leaves))

read_copies : (layout : List (List Owner)) (reads writes leaves rows : ℕ) (heat : HeatCounts)
    → heat_after layout (all_touches reads writes leaves rows) heat ≡ heat_after layout (copies (all_accesses Read leaves rows) (reads + writes)) heat
read_copies layout reads writes leaves rows heat =
    let step = by_granule layout in
    let read = all_accesses Read leaves rows in
    let write = all_accesses Write leaves rows in
    let same : (h : HeatCounts) → fold step h write ≡ fold step h read =
    λ h. fold-same step (row_accesses Write leaves) (row_accesses Read leaves) (λ h row. same_kind layout leaves row h) h (range_with_len 0 rows) in
    fold-append step heat (copies read reads) (copies write writes)
    ∙ fold-same step (λ time. write) (λ time. read) (λ h time. same h) (fold step heat (copies read reads)) (range_with_len 0 writes)
    ∙ sym (fold-append step heat (copies read reads) (copies read writes))
    ∙ ap (fold step heat) (copies_add read reads writes)

rows_raised_once : (layout : List (List Owner)) (times leaves rows : ℕ) (heat : HeatCounts) → 0 < times
    → heat_after layout (copies (all_accesses Read leaves rows) times) heat ≡ rows_raised times layout leaves rows heat
rows_raised_once layout zero leaves rows heat some = absurd (omega arith)
rows_raised_once layout (suc times) leaves rows heat some =
    let step = by_granule layout in
    let row_once : (h : HeatCounts) (row : ℕ) → fold (many step (suc times)) h (row_accesses Read leaves row) ≡ row_raised (suc times) layout leaves row h =
    grind (arith, fold-map, range_with_len, fun_ext, many_heat) in
    fold-copies step (λ h one other. heated_both layout one other h) (suc times) (all_accesses Read leaves rows) heat
    ∙ fold-flat_map (many step (suc times)) (row_accesses Read leaves) heat (range_with_len 0 rows)
    ∙ ap (λ (raise : HeatCounts → ℕ → HeatCounts). fold raise heat (range_with_len 0 rows)) (fun_ext (λ h. fun_ext (row_once h)))

rows_capped : (layout : List (List Owner)) (times leaves rows : ℕ) (heat : HeatCounts) → rows_raised (min times (2 ^ 64 - 1)) layout leaves rows heat ≡ rows_raised times layout leaves rows heat
rows_capped layout times leaves rows heat =
    ap (λ (raise : ℕ → ℕ). fold (λ (h : HeatCounts) row. fold (λ (g : HeatCounts) leaf. let more : HeatCounts = record g {
      blobs =
          map (λ (blob : ℕ × List ℕ). map (λ (at : ℕ × ℕ). if is_hot layout g.granule row leaf blob.0 at.0 then raise at.1 else at.1) (enumerate_from 0 blob.1)) (enumerate_from 0 g.blobs);
    } in more)
    h (range_with_len 0 leaves)) heat (range_with_len 0 rows))
    (raised-capped times)

pub heat_raised : (layout : List (List Owner)) (reads writes leaves rows : ℕ) (heat : HeatCounts) → 0 < reads + writes
    → rows_raised (min (reads + writes) (2 ^ 64 - 1)) layout leaves rows heat ≡ heat_after layout (all_touches reads writes leaves rows) heat
heat_raised layout reads writes leaves rows heat some = grind (arith, rows_capped, read_copies, rows_raised_once)
