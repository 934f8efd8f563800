-- A leaf that is reduced run after run.
use Rattle.lane_kernels.proofs.Imports.{◌≡◌, ℕ, ◌+◌, ◌-◌, ◌<◌, ◌≤◌, ◌^◌, Bool, List, [], ◌++◌, length, take, map, fold, min, FitsSigned, ℤ, pos, ◌+ℤ◌, Option, sym, ap, subst, ◌∙◌, arith, length-take, nat_le, if◌then◌else◌, w128, div_ceil, range_with_len, Each1, take-add, length-map, map-append, map-id, Each1-chunk, Each1-get_or, Each1-weaker, LeafType, U64, width_of, IsDeclared, low_64, IsWithin64, in_leaf, column, column_reads, IsNarrowLeaf, raised, run_of, run_steps, declared_within, raised_all, Table, IsTable, leaf_count_of, leaf_type_of, after_log, after_log-append, after_log-none, IsNarrow, reduced_by, with_more, Reduction}
use Rattle.lane_kernels.proofs.Logs.{ranges}
use Rattle.lane_kernels.proofs.Numbers.{declared_column, narrow_column, narrow_rows, read_whole}
use Rattle.lane_kernels.proofs.Reductions.{more_of, wide_sum_fits}

-- the values of a run, raised from their low bits, and those of at most 32 bits, which are their own
pub run_raised : (seen : Table) (leaf row n : ℕ) → IsTable seen → leaf < leaf_count_of seen → map (raised (leaf_type_of seen leaf)) (map low_64 (run_of leaf row n seen)) ≡ run_of leaf row n seen
run_raised seen leaf row n table inside = grind (arith, raised_all, Each1-get_or, Each1-chunk, declared_column)

pub narrow_raised : (kind : LeafType) (lows : List ℤ) → width_of kind ≤ 32 → map (raised kind) lows ≡ lows
narrow_raised U64 lows narrow = absurd (omega (arith, narrow))
narrow_raised _ lows narrow = map-id lows

pub run_narrow : (seen : Table) (leaf row n : ℕ) (lows : List ℤ) → IsTable seen → leaf < leaf_count_of seen → lows ≡ map low_64 (run_of leaf row n seen) → width_of (leaf_type_of seen leaf) ≤ 32 → Each1 IsNarrow lows
run_narrow seen leaf row n lows table inside read narrow =
    let is : IsNarrowLeaf seen leaf = record { inside = inside; narrow = narrow } in
    subst (Each1 IsNarrow) (sym (read_whole seen leaf row n lows table is read)) (narrow_rows leaf row n seen.rows (narrow_column seen leaf table is))

-- the first of them sum to a number of 128 bits
pub column_sum_fits : (seen : Table) (leaf n : ℕ) → IsTable seen → leaf < leaf_count_of seen → length seen.rows ≤ 2 ^ 24 → FitsSigned w128 (fold (λ a b. a +ℤ b) (pos 0) (take n (column leaf seen.rows)))
column_sum_fits seen leaf n table inside few =
    let kind = leaf_type_of seen leaf in
    let all = column leaf seen.rows in
    wide_sum_fits (take n all) (omega (arith, length-take n all, length-map seen.rows (in_leaf leaf)))
    (Each1-weaker (IsDeclared kind) IsWithin64 (declared_within kind) (take n all) (Each1-chunk (IsDeclared kind) 0 n all (declared_column seen leaf table inside)))

-- the rows before this one are reduced
pub record AreReduced (old : Table) (form : Reduction) (leaf : ℕ) (view : Table) (row : ℕ) (number : Option ℤ) : Type 0 where
  pub log : view ≡ after_log old (column_reads leaf 0 row)
  pub so_far : number ≡ reduced_by form (take row (column leaf old.rows))

pub none_reduced : (old : Table) (form : Reduction) (leaf : ℕ) (number : Option ℤ) → number ≡ reduced_by form [] → AreReduced old form leaf old 0 number
none_reduced old form leaf number is = record { log = sym (after_log-none old); so_far = is }

reads_from : (leaf row step : ℕ) → column_reads leaf 0 (row + step) ≡ column_reads leaf 0 row ++ column_reads leaf row step
reads_from leaf row step = grind (arith, ranges, range_with_len, map-append)

pub more_reduced : (old view new : Table) (form : Reduction) (leaf row step : ℕ) (number more : Option ℤ) → AreReduced old form leaf view row number
    → new ≡ after_log view (column_reads leaf row step) → more ≡ with_more form number (run_of leaf row step old) → AreReduced old form leaf new (row + step) more
more_reduced old view new form leaf row step number more done read is = grind (arith, after_log-append, reads_from, more_of, take-add)

-- the steps of a run, and of the rows behind it
run_cost : (narrow : Bool) (left : ℕ) → let each : ℕ = if narrow then 16 else 8 in div_ceil left each ≡ div_ceil (min left 256) each + div_ceil (left - min left 256) each
run_cost narrow left = grind arith

spent : (cost : ℕ → ℕ) (count row step begun now next : ℕ) → cost (count - row) ≡ cost step + cost (count - row - step) → now + cost (count - row) ≡ begun + cost count → next ≡ now + cost step
    → next + cost (count - (row + step)) ≡ begun + cost count
spent cost count row step begun now next parts so_far took = grind arith

pub spent_more : (kind : LeafType) (count row step begun now next : ℕ) → step ≡ min (count - row) 256 → now + run_steps kind (count - row) ≡ begun + run_steps kind count → next ≡ now + run_steps kind step
    → next + run_steps kind (count - (row + step)) ≡ begun + run_steps kind count
spent_more kind count row step begun now next is so_far took =
    spent (run_steps kind) count row step begun now next
    (run_cost (nat_le (width_of kind) 32) (count - row) ∙ ap (λ (n : ℕ). run_steps kind n + run_steps kind (count - row - n)) (sym is)) so_far took
