-- A view in which a run is put.
use Rattle.views.proofs.Imports.{◌≡◌, Fields, with_rows, idle_logged, tallied-none, ℕ, ◌+◌, ◌<◌, ◌≤◌, false, List, length, map, take, get_or, ℤ, pos, sym, ap, ◌∙◌, subst, ⊎_elim, arith, cases_lt, length-map, length-take, get_or-map, get_or-take, kinds_of, IsDeclared, LeafType, Owner, Cell, Hold, Term, kinds_are, layout_by, holds_by, is_counted, AreLaid, hold_at, table_in, stays_declared, StoreMode, low_64, column_writes, with_column, IsKept, IsMappingOf, IsTallied, raw_under, raised, run_of, TakesAll, raised_low, raised_all, run_entry, run_length, Fits, kind_at, Table, IsTable, leaf_count_of, leaf_type_of, table_holds, after_stores, Tally, tallied}
use Rattle.views.proofs.KeptLaws.{kind_count}
use Rattle.views.proofs.KeptColumns.{kept_column, table_column}
use Rattle.views.proofs.Opened.{seen_from, leaf_seen, raw_same, laid_there, shown_here}

-- what holds of each value of a run holds of the first so many
front_each : (P : ℤ → Type 0) (f : ℤ → ℤ) (lows : List ℤ) (count : ℕ) → ((k : ℕ) → k < length lows → P (f (get_or lows k (pos 0)))) → (k : ℕ) → k < length (take count (map f lows))
    → P (get_or (take count (map f lows)) k (pos 0))
front_each P f lows count each k inside =
    let size = length-take count (map f lows) in
    let all = length-map lows f in
    let below : k < length lows = omega (arith, inside, size, all) in
    let low : k < count = omega (arith, inside, size) in
    subst P (sym (get_or-take count (map f lows) k (pos 0) low ∙ get_or-map f lows k (pos 0) (pos 0) below)) (each k below)

module _ {mode : StoreMode} {fields : Fields} {extents : List ℕ} {term : Term} {blobs : List (List ℕ)} (kept : IsKept mode term extents fields blobs) {tally : Tally} {seen : Table}
    (is : seen_from mode fields extents term blobs tally ≡ seen) {mapped : Term} {inside : List ℕ} {layout : List (List Owner)} {slots : ℕ} {cells : List Cell} {holds : List Hold}
    (mapping : IsMappingOf term extents fields mapped inside layout slots cells holds) (leaf first count : ℕ) (lows : List ℤ) (leaf_in : leaf < leaf_count_of seen)
    (fits : (k : ℕ) → k < length lows → Fits (leaf_type_of seen leaf) (hold_at (table_holds seen) leaf) (raised (leaf_type_of seen leaf) (get_or lows k (pos 0)))) where
  -- each value lies in the range in which it is stored
  pub fits_here : (k : ℕ) → k < length lows → Fits (kind_at (map (λ cell. cell.kind) cells) leaf) (hold_at holds leaf) (raised (kind_at (map (λ cell. cell.kind) cells) leaf) (get_or lows k (pos 0)))
  fits_here = shown_here kept is mapping (λ l n ks hs. (k : ℕ) → k < length lows → Fits (kind_at ks leaf) (hold_at hs leaf) (raised (kind_at ks leaf) (get_or lows k (pos 0)))) fits

  abbrev kinds : List LeafType
  kinds = kinds_of fields

  abbrev values : List ℤ
  values = take count (map (raised (kind_at kinds leaf)) lows)

  fits_there : (k : ℕ) → k < length lows → Fits (kind_at kinds leaf) (hold_at (holds_by term fields) leaf) (raised (kind_at kinds leaf) (get_or lows k (pos 0)))
  fits_there = subst (λ (t : Table). (k : ℕ) → k < length lows → Fits (leaf_type_of t leaf) (hold_at (table_holds t) leaf) (raised (leaf_type_of t leaf) (get_or lows k (pos 0)))) (sym is) fits

  each_there : (k : ℕ) → k < length values → Fits (kind_at kinds leaf) (hold_at (holds_by term fields) leaf) (get_or values k (pos 0))
  each_there = front_each (λ v. Fits (kind_at kinds leaf) (hold_at (holds_by term fields) leaf) v) (raised (kind_at kinds leaf)) lows count fits_there

  module _ {new : List (List ℕ)} (laid : AreLaid layout new)
      (put : table_in layout slots holds new ≡ with_column leaf first (take count (map (raised (kind_at (map (λ cell. cell.kind) cells) leaf)) lows)) (table_in layout slots holds blobs)) where
    put_raw : raw_under term extents fields new ≡ with_column leaf first values (raw_under term extents fields blobs)
    put_raw =
        sym (raw_same mapping new) ∙ put
        ∙ ap (λ (ks : List LeafType). with_column leaf first (take count (map (raised (kind_at ks leaf)) lows)) (table_in layout slots holds blobs)) (kinds_are cells kinds mapping.cells_are)
        ∙ ap (with_column leaf first values) (raw_same mapping blobs)

    pub put_kept : IsKept mode term extents fields new
    put_kept = kept_column kept first leaf values (leaf_seen kept is leaf leaf_in) (laid_there mapping laid) put_raw each_there

    -- what callers see then: no count changes where nothing is counted, or nothing is put
    pub put_seen : {leaves : ℕ} → IsTallied term (layout_by term extents fields) leaves tally → (0 < count → is_counted mapped ≡ false)
        → seen_from mode fields extents term new tally
        ≡ after_stores seen (with_column leaf first (take count (map (raised (leaf_type_of seen leaf)) lows)) seen.rows) (column_writes leaf first count)
    put_seen has idle =
        let old : Table = seen_from mode fields extents term blobs tally in
        let counts : tally ≡ tallied (layout_by term extents fields) tally (column_writes leaf first count) =
        ⊎_elim (λ (some : 0 < count). sym (idle_logged (column_writes leaf first count) (ap is_counted (sym mapping.term_is) ∙ idle some) has))
        (λ (empty : count ≤ 0).
        let none : 0 ≡ count = omega (arith, empty) in
        sym (tallied-none (layout_by term extents fields) tally) ∙ ap (λ (n : ℕ). tallied (layout_by term extents fields) tally (column_writes leaf first n)) none)
        (cases_lt 0 count) in
        ap (with_rows old) (table_column kept first leaf values (leaf_seen kept is leaf leaf_in) (laid_there mapping laid) put_raw each_there)
        ∙ ap (λ (w : Tally). with_rows (seen_from mode fields extents term blobs w) (with_column leaf first values old.rows)) counts
        ∙ ap (λ (t : Table). after_stores t (with_column leaf first (take count (map (raised (leaf_type_of t leaf)) lows)) t.rows) (column_writes leaf first count)) is

-- ---- values of a view that another takes

pub run_declared : (table : Table) (leaf first count : ℕ) → IsTable table → leaf < leaf_count_of table → first + count ≤ length table.rows → (k : ℕ) → k < count
    → IsDeclared (leaf_type_of table leaf) (get_or (run_of leaf first count table) k (pos 0))
run_declared table leaf first count is leaf_in inside k below = grind (arith, run_entry, stays_declared, kind_count)

module _ (table source : Table) (leaf first count : ℕ) (is : IsTable source) (leaf_in : leaf < leaf_count_of source) (inside : first + count ≤ length source.rows)
    (alike : leaf_type_of source leaf ≡ leaf_type_of table leaf) where
  abbrev copied : List ℤ
  copied = run_of leaf first count source

  copied_declared : (k : ℕ) → k < length copied → IsDeclared (leaf_type_of table leaf) (get_or copied k (pos 0))
  copied_declared k below =
      subst (λ (kind : LeafType). IsDeclared kind (get_or copied k (pos 0))) alike
      (run_declared source leaf first count is leaf_in inside k (omega (arith, below, run_length leaf first count source.rows inside)))

  -- each fits, by its low bits
  pub copied_fits : TakesAll table leaf → (lows : List ℤ) → lows ≡ map low_64 copied → (k : ℕ) → k < length lows
      → Fits (leaf_type_of table leaf) (hold_at (table_holds table) leaf) (raised (leaf_type_of table leaf) (get_or lows k (pos 0)))
  copied_fits takes lows are k below =
      let many : length lows ≡ length copied = ap (length {A = ℤ}) are ∙ length-map copied low_64 in
      let here : k < length copied = omega (arith, below, many) in
      let value = get_or copied k (pos 0) in
      let same : raised (leaf_type_of table leaf) (get_or lows k (pos 0)) ≡ value = grind (arith, get_or-map, raised_low, copied_declared) in
      subst (λ (v : ℤ). Fits (leaf_type_of table leaf) (hold_at (table_holds table) leaf) v) (sym same) (takes value (copied_declared k here))

  -- and is raised to itself
  pub copied_raised : (lows : List ℤ) → lows ≡ map low_64 copied → map (raised (leaf_type_of table leaf)) lows ≡ copied
  copied_raised lows are = ap (map (raised (leaf_type_of table leaf))) are ∙ raised_all (leaf_type_of table leaf) copied copied_declared
