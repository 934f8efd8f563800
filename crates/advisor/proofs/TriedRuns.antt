-- Runs of rows whose values are read and tried leaf by leaf.
use Rattle.advisor.proofs.Imports.{◌≡◌, ℕ, ◌+◌, ◌<◌, ◌≤◌, Bool, ℤ, pos, List, [], ◌∷◌, ◌++◌, All, length, map, get_or, take, drop, refl, sym, ap, ◌∙◌, subst, arith, ◌&&◌, ◌||◌, not, nat_lt, if◌then◌else◌, list_all, flat_map, range_with_len, fun_ext, take-add, cases_lt, lt-ltb, le-ltb, eq-eqb, ne_eqb, flat_map-append, length-map, length-take, get_or-map, get_or-take, get_or-drop, take-map, drop-map, All-map, flat_map-cons, flat_map_single, list_all-append, list_all-map, map-map, IsDeclared, Leaf, leaves, Fields, LeafType, entry, Owner, stays_declared, StoreMode, low_64, in_leaf, column_reads, tallied-kinds, raised, run_of, raised_all, Table, IsTable, leaf_count_of, leaf_type_of, leaf_types_of, after_log, Access, Read, Tally, tallied, row_accesses, all_accesses, after_log-none, after_log-append, accesses_more, stays, IsTrial, rows_accesses, takes, tried_all, all_lows_stay, tried_leaf, Trial, and-true}
use Rattle.advisor.proofs.Cheapest.{same_images}
use Rattle.advisor.proofs.SteadyLaws.{range_cut}

-- ---- accesses

-- none of each row
no_leaf : (rows : List ℕ) → flat_map (row_accesses Read 0) rows ≡ []
no_leaf [] = refl
no_leaf (row ∷ rows) = flat_map-cons (row_accesses Read 0) row rows ∙ no_leaf rows

pub none_read : (seen : Table) (first count : ℕ) → seen ≡ after_log seen (rows_accesses Read 0 first count)
none_read seen first count = sym (ap (after_log seen) (no_leaf (range_with_len first count)) ∙ after_log-none seen)

-- a leaf more: the order of accesses carries no meaning
leaf_tallied : (layout : List (List Owner)) (tally : Tally) (leaf : ℕ) (rows : List ℕ)
    → tallied layout tally (flat_map (row_accesses Read leaf) rows ++ map (λ row. Read row leaf) rows) ≡ tallied layout tally (flat_map (row_accesses Read (leaf + 1)) rows)
leaf_tallied layout tally leaf rows =
    ap (λ (log : List Access). tallied layout tally (flat_map (row_accesses Read leaf) rows ++ log)) (sym (flat_map_single (λ (row : ℕ). Read row leaf) rows))
    ∙ sym (tallied-kinds layout tally (row_accesses Read leaf) (λ row. Read row leaf ∷ []) rows)
    ∙ ap (λ (logs : ℕ → List Access). tallied layout tally (flat_map logs rows)) (fun_ext (λ row. sym (accesses_more (Read row) leaf)))

pub leaf_read : (seen now new : Table) (leaf first count : ℕ) → now ≡ after_log seen (rows_accesses Read leaf first count) → new ≡ after_log now (column_reads leaf first count)
    → new ≡ after_log seen (rows_accesses Read (leaf + 1) first count)
leaf_read seen now new leaf first count so read = grind (arith, after_log-append, leaf_tallied, range_with_len)

-- a run more
pub run_read : (seen now new : Table) (first count : ℕ) → now ≡ after_log seen (all_accesses Read (leaf_count_of seen) first) → new ≡ after_log now (rows_accesses Read (leaf_count_of now) first count)
    → new ≡ after_log seen (all_accesses Read (leaf_count_of seen) (first + count))
run_read seen now new first count so read = grind (arith, after_log-append, flat_map, range_cut, flat_map-append, range_with_len)

-- ---- trials

with_stays : Trial → Bool → Trial
with_stays trial stays = record trial { stays = stays }

-- no row
pub none_tried : (mode : StoreMode) (trials : List Trial) → map (tried_all mode []) trials ≡ trials
unfolding with_stays
none_tried mode [] = refl
none_tried mode (trial ∷ trials) = ap (λ (b : Bool). with_stays trial b ∷ map (tried_all mode []) trials) (and-true trial.stays) ∙ ap (λ (ts : List Trial). trial ∷ ts) (none_tried mode trials)

and_more : (a b c : Bool) → ((a && b) && c) ≡ (a && (b && c))
and_more a b c = grind arith

tried_more : (mode : StoreMode) (rows more : List (List ℤ)) (trial : Trial) → tried_all mode more (tried_all mode rows trial) ≡ tried_all mode (rows ++ more) trial
unfolding with_stays
tried_more mode rows more trial = grind (arith, with_stays, and_more, list_all, list_all-append)

-- a run more
pub run_tried : (mode : StoreMode) (rows : List (List ℤ)) (first count : ℕ) (before now new : List Trial) → now ≡ map (tried_all mode (take first rows)) before
    → new ≡ map (tried_all mode (take count (drop first rows))) now → new ≡ map (tried_all mode (take (first + count) rows)) before
run_tried mode rows first count before now new so step = grind (arith, map-map, fun_ext, tried_more, take-add)

-- those of the leaves before one are tried
abbrev pub tried_to : StoreMode → List (List ℤ) → ℕ → Trial → Trial
tried_to mode rows leaf trial = if nat_lt trial.leaf leaf then tried_all mode rows trial else trial

pub none_to : (mode : StoreMode) (rows : List (List ℤ)) (trials : List Trial) → trials ≡ map (tried_to mode rows 0) trials
none_to mode rows [] = refl
none_to mode rows (trial ∷ trials) = grind (arith, nat_lt, le-ltb, (none_to mode rows trials))

pub all_to : (fields : Fields) (mode : StoreMode) (rows : List (List ℤ)) (count : ℕ) (trials : List Trial) → All (IsTrial fields) trials → length (leaves fields) ≤ count
    → map (tried_to mode rows count) trials ≡ map (tried_all mode rows) trials
all_to fields mode rows count trials each all = grind (arith, same_images, lt-ltb)

-- they are of what they were of
is_still : (fields : Fields) (mode : StoreMode) (rows : List (List ℤ)) (trial : Trial) (low : Bool) → IsTrial fields trial → IsTrial fields (if low then tried_all mode rows trial else trial)
is_still fields mode rows trial low is = grind arith

pub trials_to : (fields : Fields) (mode : StoreMode) (rows : List (List ℤ)) (leaf : ℕ) (before now : List Trial) → All (IsTrial fields) before → now ≡ map (tried_to mode rows leaf) before
    → All (IsTrial fields) now
trials_to fields mode rows leaf before now each so =
    subst (λ (ts : List Trial). All (IsTrial fields) ts) {x = map (tried_to mode rows leaf) before} (sym so)
    (All-map (IsTrial fields) (tried_to mode rows leaf) before (λ k d l. is_still fields mode rows (get_or before k d) (nat_lt (get_or before k d).leaf leaf) (each k d l)))

module _ (mode : StoreMode) (rows : List (List ℤ)) (leaf : ℕ) (lows : List ℤ) (trial : Trial)
    (same : trial.leaf ≡ leaf → all_lows_stay mode trial lows ≡ list_all (takes mode trial) rows) where
  abbrev after : Bool → Trial → Trial
  after is some = with_stays some (some.stays && (not is || all_lows_stay mode some lows))

  abbrev either : Bool → Trial
  either is = if is then tried_all mode rows trial else trial

  -- a leaf more
  one_tried : tried_leaf mode leaf lows (tried_to mode rows leaf trial) ≡ tried_to mode rows (leaf + 1) trial
  unfolding with_stays
  one_tried = grind (arith, ne_eqb, lt-ltb, with_stays, and-true, le-ltb, eq-eqb, cases_lt)

-- the low bits of a run of a leaf say whether its values stay
module _ (table : Table) (is : IsTable table) (leaf first count : ℕ) (leaf_in : leaf < leaf_count_of table) (rows_in : first + count ≤ length table.rows)
    (lows : List ℤ) (read : lows ≡ map low_64 (run_of leaf first count table)) where
  abbrev part : List (List ℤ)
  part = take count (drop first table.rows)

  abbrev kind : LeafType
  kind = leaf_type_of table leaf

  run_is : run_of leaf first count table ≡ map (in_leaf leaf) part
  run_is = ap (take count) (drop-map (in_leaf leaf) first table.rows) ∙ take-map (in_leaf leaf) count (drop first table.rows)

  declared : (k : ℕ) → k < length (map (in_leaf leaf) part) → IsDeclared kind (get_or (map (in_leaf leaf) part) k (pos 0))
  declared k low =
      let inside : k < length part = omega (arith, low, length-map part (in_leaf leaf)) in
      let near : k < count = omega (arith, inside, length-take count (drop first table.rows)) in
      let typed : leaf < length (leaf_types_of table) = omega (arith, leaf_in, length-map (leaves table.fields) (λ (one : Leaf). one.kind)) in
      let value : get_or (map (in_leaf leaf) part) k (pos 0) ≡ entry table.rows (first + k) leaf =
      get_or-map (in_leaf leaf) part k [] (pos 0) inside ∙ ap (in_leaf leaf) (get_or-take count (drop first table.rows) k [] near ∙ get_or-drop first table.rows k []) in
      grind (arith, stays_declared)

  pub lows_stay : (mode : StoreMode) (trial : Trial) → IsTrial table.fields trial → trial.leaf ≡ leaf → all_lows_stay mode trial lows ≡ list_all (takes mode trial) part
  lows_stay mode trial tried same =
      let test : ℤ → Bool = stays mode trial.kind trial.hold in
      let kinds : trial.kind ≡ kind = tried.kind_is ∙ ap (leaf_type_of table) same in
      ap (all_lows_stay mode trial) (read ∙ ap (map low_64) run_is)
      ∙ sym (list_all-map test (raised trial.kind) (map low_64 (map (in_leaf leaf) part)))
      ∙ ap (λ (k : LeafType). list_all test (map (raised k) (map low_64 (map (in_leaf leaf) part)))) kinds
      ∙ ap (list_all test) (raised_all kind (map (in_leaf leaf) part) declared)
      ∙ list_all-map test (in_leaf leaf) part
      ∙ ap (λ (n : ℕ). list_all (λ row. test (in_leaf n row)) part) (sym same)

  -- so trials of the leaf are tried
  pub leaf_tried : (mode : StoreMode) (before now new : List Trial) → All (IsTrial table.fields) before → now ≡ map (tried_to mode part leaf) before → new ≡ map (tried_leaf mode leaf lows) now
      → new ≡ map (tried_to mode part (leaf + 1)) before
  leaf_tried mode before now new each so step = grind (arith, map-map, same_images, one_tried, lows_stay)
