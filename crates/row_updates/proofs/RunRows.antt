-- Rows of a run that are updated at once, as if each were updated after the one before.
use Rattle.row_updates.proofs.Imports.{◌≡◌, ◌∙◌, ℕ, zero, suc, ◌+◌, ◌<◌, ◌≤◌, List, [], ◌∷◌, ◌++◌, length, map, take, drop, set, get_or, ℤ, pos, Bool, true, false, Option, Result, Ok, is_ok, refl, sym, ap, subst, arith, get_or-drop, slice_set, get_or-map, length-map, get_or-take, length-take-le, set-get_or, take_more, drop-drop, Term, outcome_of, IsSafe, worth, index_at, leaves, stays_answer, in_leaf, with_column, no_column, length-with_column, StoreAnswer, Keeping, Table, IsTable, leaf_count_of, answer_of, kept_of, after_stores, Access, Tally, StoreFault, UpdateFault, Run, Setting, each, in_row, store_kind, passes, new_value, with_values, updated_row, updated_of, ◌>>=◌, update_log, IsIdle, row_of, IsGiven, AreUpdated, IsStill, IsRunUpdated, AreTested}
use Rattle.row_updates.proofs.Rows.{values_push}
use Rattle.row_updates.specs.EachLaws.{each_push, each_length, rows_push}

-- ---- the rows in which a leaf has other values: those before, those behind, and each of them

column_front : (leaf first : ℕ) (values : List ℤ) (rows : List (List ℤ)) → take first (with_column leaf first values rows) ≡ take first rows
column_front leaf zero values rows = refl
column_front leaf (suc first) values [] = refl
column_front leaf (suc first) values (numbers ∷ rows) = ap (λ (more : List (List ℤ)). numbers ∷ more) (column_front leaf first values rows)

column_back : (leaf first at : ℕ) (values : List ℤ) (rows : List (List ℤ)) → at ≡ first + length values → drop at (with_column leaf first values rows) ≡ drop at rows
column_back leaf first at [] rows place = ap (drop at) (no_column leaf first rows)
column_back leaf zero zero (value ∷ values) rows place = absurd (omega (arith, place))
column_back leaf zero (suc at) (value ∷ values) [] place = refl
column_back leaf zero (suc at) (value ∷ values) (numbers ∷ rows) place = column_back leaf zero at values rows (omega (arith, place))
column_back leaf (suc first) zero (value ∷ values) rows place = absurd (omega (arith, place))
column_back leaf (suc first) (suc at) (value ∷ values) [] place = refl
column_back leaf (suc first) (suc at) (value ∷ values) (numbers ∷ rows) place = column_back leaf first at (value ∷ values) rows (omega (arith, place))

column_at : (leaf first k at : ℕ) (values : List ℤ) (rows : List (List ℤ)) → k < length values → at ≡ first + k → at < length rows
    → get_or (with_column leaf first values rows) at [] ≡ set (get_or rows at []) leaf (get_or values k (pos 0))
column_at leaf first k at [] rows inside place below = absurd (omega arith)
column_at leaf first k at (value ∷ values) [] inside place below = absurd (omega arith)
column_at leaf zero zero zero (value ∷ values) (numbers ∷ rows) inside place below = refl
column_at leaf zero zero (suc at) (value ∷ values) (numbers ∷ rows) inside place below = absurd (omega arith)
column_at leaf zero (suc k) zero (value ∷ values) (numbers ∷ rows) inside place below = absurd (omega arith)
column_at leaf zero (suc k) (suc at) (value ∷ values) (numbers ∷ rows) inside place below = column_at leaf zero k at values rows (omega arith) (omega arith) (omega arith)
column_at leaf (suc first) k zero (value ∷ values) (numbers ∷ rows) inside place below = absurd (omega arith)
column_at leaf (suc first) k (suc at) (value ∷ values) (numbers ∷ rows) inside place below = column_at leaf first k at (value ∷ values) rows inside (omega arith) (omega arith)

-- ---- one right side more of a row

module _ (answer : StoreAnswer) (keep : Keeping) (filter : Option (Term ℕ)) (sets : List Setting) (last : Setting) (number : ℕ) (row : List ℤ) (index : List ℕ) where
  record HasValues (all : Result (List ℤ) UpdateFault) (new : List ℤ) : Type 0 where
    values : List ℤ
    is : all ≡ Ok values
    made : with_values keep sets values row ≡ new

  have_values : (all : Result (List ℤ) UpdateFault) (new : List ℤ) → (all >>= (λ values. Ok (with_values keep sets values row))) ≡ Ok new → HasValues all new
  have_values all new gives = grind arith

  -- a row that passes, whose last right side has a value
  row_more : (new : List ℤ) (value : ℤ) → passes number row index filter ≡ Ok true → updated_row answer keep filter sets number row index ≡ Ok new
      → new_value answer number row index last ≡ Ok value → updated_row answer keep filter (sets ++ last ∷ []) number row index ≡ Ok (slice_set new last.leaf (keep last.leaf value))
  row_more new value test gives one =
      let have = have_values (each (new_value answer number row index) sets) new (rw test at gives) in
      let all = each_push (new_value answer number row index) sets last have.values value have.is one in
      let long = each_length (new_value answer number row index) sets have.values have.is in
      rw (test, all) (ap (λ (r : List ℤ). Ok r) (values_push keep sets last have.values row value long ∙ ap (λ (r : List ℤ). slice_set r last.leaf (keep last.leaf value)) have.made))

  -- one that does not
  row_left : passes number row index filter ≡ Ok false → updated_row answer keep filter (sets ++ last ∷ []) number row index ≡ Ok row
  row_left test = rw test refl

  was_left : (new : List ℤ) → passes number row index filter ≡ Ok false → updated_row answer keep filter sets number row index ≡ Ok new → new ≡ row
  was_left new test gives = let same = rw test at gives in cc

-- ---- what is given

-- a value that stands in a table is kept as it is
own_kept : (table : Table) (row leaf : ℕ) → IsTable table → row < length table.rows → leaf < leaf_count_of table → kept_of table leaf (in_leaf leaf (row_of table row)) ≡ in_leaf leaf (row_of table row)
own_kept table row leaf is inside below = grind (arith, length-map, leaves, stays_answer)

taken : (number leaf : ℕ) (value : ℤ) (answer : Result ℤ StoreFault) → is_ok answer ≡ true → (in_row number (store_kind leaf) answer >>= (λ kept. Ok value)) ≡ Ok value
taken number leaf value answer ok = grind arith

value_given : (answer : StoreAnswer) (number : ℕ) (row : List ℤ) (index : List ℕ) (set : Setting) (value : ℤ) → (outcome_of row index set.value).answer ≡ Ok value → is_ok (answer set.leaf value) ≡ true
    → new_value answer number row index set ≡ Ok value
value_given answer number row index set value gives ok = rw gives (taken number set.leaf value (answer set.leaf value) ok)

-- rows that are stored in a table that counts nothing
pub stored_still : (table mid after : Table) (leaf first : ℕ) (values : List ℤ) (log : List Access) → IsIdle table → IsStill table mid
    → after ≡ after_stores mid (with_column leaf first values mid.rows) log → IsStill table after
stored_still table mid after leaf first values log idle before stored = grind (arith, length-with_column)

module _ (table : Table) (run : Run) (filter : Option (Term ℕ)) (sets : List Setting) (last : Setting) (count : ℕ) (test : ℕ → Bool) (values : List ℤ) where
  -- a row in which the value of the last right side is stored
  row_stored : (mid : Table) (k : ℕ) → IsTable table → run.first + k < length table.rows → last.leaf < leaf_count_of table → IsSafe run.leaves.now run.places.now last.value
      → passes (run.first + k) (row_of table (run.first + k)) (index_at table.extents (run.first + k)) filter ≡ Ok (test k)
      → updated_row (answer_of table) (kept_of table) filter sets (run.first + k) (row_of table (run.first + k)) (index_at table.extents (run.first + k)) ≡ Ok (row_of mid (run.first + k))
      → IsGiven (test k) table run last k (get_or values k (pos 0)) → is_ok (answer_of table last.leaf (get_or values k (pos 0))) ≡ true
      → updated_row (answer_of table) (kept_of table) filter (sets ++ last ∷ []) (run.first + k) (row_of table (run.first + k)) (index_at table.extents (run.first + k))
      ≡ Ok (slice_set (row_of mid (run.first + k)) last.leaf (kept_of table last.leaf (get_or values k (pos 0))))
  row_stored mid k is inside below safe passed so_far given ok = by_test (test k) passed given where
    number : ℕ
    number = run.first + k

    by_test : (t : Bool) → passes number (row_of table number) (index_at table.extents number) filter ≡ Ok t → IsGiven t table run last k (get_or values k (pos 0))
        → updated_row (answer_of table) (kept_of table) filter (sets ++ last ∷ []) number (row_of table number) (index_at table.extents number)
        ≡ Ok (slice_set (row_of mid number) last.leaf (kept_of table last.leaf (get_or values k (pos 0))))
    by_test true passed worthy =
        let row = row_of table number in
        let index = index_at table.extents number in
        let value = get_or values k (pos 0) in
        let far = worth run.leaves.now run.places.now row index last.value safe worthy.reached in
        let gives : (outcome_of row index last.value).answer ≡ Ok value = far.answer ∙ ap (λ (v : ℤ). Ok v) (sym worthy.is) in
        row_more (answer_of table) (kept_of table) filter sets last number row index (row_of mid number) value passed so_far (value_given (answer_of table) number row index last value gives ok)
    by_test false passed stands = grind (arith, was_left, own_kept, slice_set, set-get_or, row_left)

  -- the rows of a run in which the values of the last right side are stored
  pub run_stored : (mid after : Table) (log : List Access) → IsTable table → IsIdle table → IsSafe run.leaves.now run.places.now last.value → last.leaf < leaf_count_of table
      → run.first + count ≤ length table.rows → count ≤ length values → AreTested table filter run.first count test → IsRunUpdated table filter sets run.first count mid
      → ((k : ℕ) → k < count → IsGiven (test k) table run last k (get_or values k (pos 0)))
      → ((k : ℕ) → k < count → is_ok (answer_of table last.leaf (get_or values k (pos 0))) ≡ true)
      → after ≡ after_stores mid (with_column last.leaf run.first (map (kept_of mid last.leaf) (take count values)) mid.rows) log
      → IsRunUpdated table filter (sets ++ last ∷ []) run.first count after
  run_stored mid after log is idle safe inside rows_in long tested before given ok stored =
      let first = run.first in
      let leaf = last.leaf in
      let keep = kept_of table leaf in
      let kept = map keep (take count values) in
      let raw = with_column leaf first (map (kept_of mid leaf) (take count values)) mid.rows in
      let many : length kept ≡ count = length-map (take count values) keep ∙ length-take-le count values long in
      let there : after.rows ≡ raw = ap (λ (t : Table). t.rows) stored in
      let rows : after.rows ≡ with_column leaf first kept mid.rows =
      there ∙ ap (λ (t : Table). with_column leaf first (map (kept_of t leaf) (take count values)) mid.rows) before.still.same in
      record {
        still = stored_still table mid after leaf first (map (kept_of mid leaf) (take count values)) log idle before.still stored;
        front = ap (take first) rows ∙ column_front leaf first kept mid.rows ∙ before.front;
        back = ap (drop (first + count)) rows ∙ column_back leaf first (first + count) kept mid.rows (ap (λ (n : ℕ). first + n) (sym many)) ∙ before.back;
        each = λ k small.
            let below : first + k < length table.rows = omega (arith, small, rows_in) in
            let entry : get_or kept k (pos 0) ≡ keep (get_or values k (pos 0)) =
            get_or-map keep (take count values) k (pos 0) (pos 0) (omega (arith, small, length-take-le count values long)) ∙ ap keep (get_or-take count values k (pos 0) small) in
            let row : row_of after (first + k) ≡ slice_set (row_of mid (first + k)) leaf (keep (get_or values k (pos 0))) =
            grind (arith, column_at, slice_set) in
            row_stored mid k is below inside safe (tested k small) (before.each k small) (given k small) (ok k small) ∙ ap (λ (r : List ℤ). Ok r) (sym row);
      }

-- ---- runs

-- no right side, and no row
module _ (table : Table) (filter : Option (Term ℕ)) (first count : ℕ) where
  pub no_sides : (test : ℕ → Bool) → AreTested table filter first count test → IsRunUpdated table filter [] first count table
  no_sides test tested = record { still = record { same = refl; count = refl }; front = refl; back = refl; each = λ k small. by_test (first + k) (test k) (tested k small) } where
    by_test : (number : ℕ) (t : Bool) → passes number (row_of table number) (index_at table.extents number) filter ≡ Ok t
        → updated_row (answer_of table) (kept_of table) filter [] number (row_of table number) (index_at table.extents number) ≡ Ok (row_of table number)
    by_test number true passed = rw passed refl
    by_test number false passed = rw passed refl

  -- none passes
  pub none_pass : (sets : List Setting) → AreTested table filter first count (λ k. false) → IsRunUpdated table filter sets first count table
  none_pass sets tested = record { still = record { same = refl; count = refl }; front = refl; back = refl; each = λ k small. (let passed = tested k small in rw passed refl) }

-- behind rows that are updated
module _ (old view after : Table) (filter : Option (Term ℕ)) (sets : List Setting) (first count : ℕ) (idle : IsIdle old) (rows_in : first + count ≤ length old.rows)
    (so_far : AreUpdated old filter sets view first) (run : IsRunUpdated view filter sets first count after) where
  view_is : view ≡ record old { rows = view.rows }
  view_is = so_far.same ∙ ap (λ (tally : Tally). let t : Table = record old { rows = view.rows; tally = tally } in t) (ap (λ (t : Table). t.tally) (idle (update_log old filter sets first)))

  gives : (k : ℕ) → k < count → updated_row (answer_of old) (kept_of old) filter sets (first + k) (get_or old.rows (first + k) []) (index_at old.extents (first + k)) ≡ Ok (get_or after.rows (first + k) [])
  gives k small =
      let number = first + k in
      let row : get_or old.rows number [] ≡ get_or view.rows number [] =
      sym (get_or-drop first old.rows k []) ∙ ap (λ (l : List (List ℤ)). get_or l k []) (sym so_far.back) ∙ get_or-drop first view.rows k [] in
      ap (λ (r : List ℤ). updated_row (answer_of old) (kept_of old) filter sets number r (index_at old.extents number)) row
      ∙ ap (λ (t : Table). updated_row (answer_of t) (kept_of t) filter sets number (get_or view.rows number []) (index_at t.extents number)) (sym view_is)
      ∙ run.each k small

  fronts : (k : ℕ) → k ≤ count → updated_of old filter sets (first + k) ≡ Ok (take (first + k) after.rows)
  fronts zero few = grind arith
  fronts (suc k) few =
      let small : k < count = omega (arith, few) in
      let next : (first + k) + 1 ≡ first + suc k = omega arith in
      let inside : first + k < length after.rows = omega (arith, small, rows_in, run.still.count, so_far.count) in
      let one = rows_push (λ number. updated_row (answer_of old) (kept_of old) filter sets number (get_or old.rows number []) (index_at old.extents number)) (first + k) (take (first + k) after.rows)
      (get_or after.rows (first + k) []) (fronts k (omega (arith, few))) (gives k small) in
      subst (λ (n : ℕ). updated_of old filter sets n ≡ Ok (take n after.rows)) next (one ∙ ap (λ (r : List (List ℤ)). Ok r) (sym (take_more after.rows (first + k) [] inside)))

  pub run_more : AreUpdated old filter sets after (first + count)
  run_more = record {
    same = grind (arith, view_is);
    count = run.still.count ∙ so_far.count;
    front = fronts count (omega arith);
    back = run.back ∙ sym (drop-drop count first view.rows) ∙ ap (drop count) so_far.back ∙ drop-drop count first old.rows;
  }
