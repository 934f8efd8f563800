-- The rows of the plain update, stored leaf by leaf.
use Rattle.actors.proofs.Imports.{◌-◌, set-append_right, leaf_count, passed, ◌≡◌, ℕ, ◌+◌, ◌<◌, ◌≤◌, All, Bool, true, false, ℤ, pos, List, [], ◌∷◌, ◌++◌, length, map, get_or, set, take, drop, Option, Some, Result, Ok, refl, sym, ap, ◌∙◌, subst, ⊎_elim, arith, append_assoc, length-append, ◌==◌, ◌||◌, if◌then◌else◌, cases_eq, eq-eqb, eqb-true, append-nil, get_or-map, get_or-set_same, get_or-set_other, get_or-append_right, get_or-drop, length-map, length-set, length-take, length-drop, take_more, take_all, drop_all, drop_more, ext_get_or, map-append, set-get_or, set-set, filter-append, Term, index_at, entry, AreSized, table_in, with_entry, declared_table, stays_answer, IsLawful, memory_is, rows_read, UpdateFault, Assign, stores_log, if_given, update_log, Setting, setting_of, each, ◌>>=◌, passes, new_value, with_values, tried_row, given_row, updated_row, updated_of, IsSetOf, updated_as_tried, StoreAnswer, Keeping, Table, owners_of, leaf_types_of, leaf_count_of, table_holds, answer_of, kept_of, after_stores, Write, writes_in, after_stores-append, after_log-none, logs_more, job_of, memory_of, Job, is_in, row_as_it_stands, lets_through, length-with_values, updated_at, row_held, with_held}
use Rattle.actors.proofs.Tried.{row_writes}

-- one leaf more
held_push : (sets : List Setting) (one : Setting) (held row : List ℤ) → with_held (sets ++ one ∷ []) held row ≡ set (with_held sets held row) one.leaf (get_or held one.leaf (pos 0))
held_push [] one held row = refl
held_push (s ∷ sets) one held row = held_push sets one held (set row s.leaf (get_or held s.leaf (pos 0)))

pub one_stored : (old view new : Table) (row n : ℕ) (sets : List Assign) (one : Assign) (held : List ℤ) (value : ℤ) → n < length sets → one ≡ get_or sets n one → row < length old.rows
    → value ≡ get_or held one.leaf (pos 0)
    → view ≡ after_stores old (set old.rows row (with_held (take n (map setting_of sets)) held (get_or old.rows row []))) (stores_log row (take n (map setting_of sets)))
    → new ≡ after_stores view (with_entry view.rows row one.leaf value) (Write row one.leaf ∷ [])
    → new ≡ after_stores old (set old.rows row (with_held (take (n + 1) (map setting_of sets)) held (get_or old.rows row []))) (stores_log row (take (n + 1) (map setting_of sets)))
one_stored old view new row n sets one held value low is inside value_is so_far stored =
    let settings = map setting_of sets in
    let here = with_held (take n settings) held (get_or old.rows row []) in
    let done = stores_log row (take n settings) in
    let at : get_or settings n (setting_of one) ≡ setting_of one = get_or-map setting_of sets n one (setting_of one) low ∙ ap setting_of (sym is) in
    let next : take (n + 1) settings ≡ take n settings ++ setting_of one ∷ [] =
    take_more settings n (setting_of one) (omega (arith, low, length-map sets setting_of)) ∙ ap (λ (s : Setting). take n settings ++ s ∷ []) at in
    let rows : view.rows ≡ set old.rows row here = ap (λ (t : Table). t.rows) so_far in
    let entry : with_entry view.rows row one.leaf value ≡ set old.rows row (set here one.leaf value) = grind (arith, get_or-set_same, set-set) in
    let row_is : set here one.leaf value ≡ with_held (take (n + 1) settings) held (get_or old.rows row []) = grind (arith, held_push) in
    let log : done ++ Write row one.leaf ∷ [] ≡ stores_log row (take (n + 1) settings) =
    sym (map-append (λ (s : Setting). Write row s.leaf) (take n settings) (setting_of one ∷ [])) ∙ ap (stores_log row) (sym next) in
    stored ∙ ap (λ (r : List (List ℤ)). after_stores view r (Write row one.leaf ∷ [])) (entry ∙ ap (set old.rows row) row_is)
    ∙ ap (λ (t : Table). after_stores t (set old.rows row (with_held (take (n + 1) settings) held (get_or old.rows row []))) (Write row one.leaf ∷ [])) so_far
    ∙ after_stores-append old (set old.rows row here) (set old.rows row (with_held (take (n + 1) settings) held (get_or old.rows row []))) done (Write row one.leaf ∷ [])
    ∙ ap (after_stores old (set old.rows row (with_held (take (n + 1) settings) held (get_or old.rows row [])))) log

pub none_stored : (old : Table) (row : ℕ) → old ≡ after_stores old (set old.rows row (get_or old.rows row [])) []
none_stored old row = sym (after_log-none old) ∙ ap (λ (r : List (List ℤ)). after_stores old r []) (sym (set-get_or old.rows row []))

-- a row that agrees with another but for the leaves that are set becomes that one
held_is : (sets : List Setting) (target row : List ℤ) → length row ≡ length target
    → ((f : ℕ) → f < length target → is_in (map (λ s. s.leaf) sets) f ≡ false → get_or row f (pos 0) ≡ get_or target f (pos 0)) → with_held sets target row ≡ target
held_is [] target row long same = ext_get_or (pos 0) row target long (λ f low. same f (omega (arith, low, long)) refl)
held_is (s ∷ sets) target row long same =
    held_is sets target (set row s.leaf (get_or target s.leaf (pos 0))) (length-set row s.leaf (get_or target s.leaf (pos 0)) ∙ long)
    (λ f low out.
    ⊎_elim (λ (here : f ≡ s.leaf).
    ap (λ (w : ℕ). get_or (set row s.leaf (get_or target s.leaf (pos 0))) w (pos 0)) here
    ∙ get_or-set_same row s.leaf (get_or target s.leaf (pos 0)) (pos 0) (omega (arith, low, here, long)) ∙ ap (λ (w : ℕ). get_or target w (pos 0)) (sym here))
    (λ (other : f ≡ s.leaf → ⊥).
    get_or-set_other row s.leaf f (get_or target s.leaf (pos 0)) (pos 0) other ∙ same f low (apart (s.leaf == f) refl other out))
    (cases_eq f s.leaf)) where
      apart : {f : ℕ} (t : Bool) → (s.leaf == f) ≡ t → (f ≡ s.leaf → ⊥) → is_in (map (λ s. s.leaf) sets) f ≡ false → (t || is_in (map (λ s. s.leaf) sets) f) ≡ false
      apart {f} true e other out = absurd (other (sym (eqb-true s.leaf f e)))
      apart {f} false e other out = out

-- the values of an update change no other leaf
values_other : (keep : Keeping) (sets : List Setting) (values row : List ℤ) (f : ℕ) → is_in (map (λ s. s.leaf) sets) f ≡ false → get_or (with_values keep sets values row) f (pos 0) ≡ get_or row f (pos 0)
values_other keep [] values row f out = refl
values_other keep (s ∷ sets) [] row f out = refl
values_other keep (s ∷ sets) (value ∷ values) row f out = by_test (s.leaf == f) refl out (λ rest. values_other keep sets values (set row s.leaf (keep s.leaf value)) f rest) where
  by_test : (t : Bool) → (s.leaf == f) ≡ t → (t || is_in (map (λ s. s.leaf) sets) f) ≡ false
      → (is_in (map (λ s. s.leaf) sets) f ≡ false → get_or (with_values keep sets values (set row s.leaf (keep s.leaf value))) f (pos 0) ≡ get_or (set row s.leaf (keep s.leaf value)) f (pos 0))
      → get_or (with_values keep sets values (set row s.leaf (keep s.leaf value))) f (pos 0) ≡ get_or row f (pos 0)
  by_test true e bad others = absurd (let no : true ≡ false = bad in cc)
  by_test false e rest others =
      others rest
      ∙ get_or-set_other row s.leaf f (keep s.leaf value) (pos 0) (λ same. (let no : false ≡ true = sym e ∙ eq-eqb s.leaf f (sym same) in cc))

module _ (job : Job) (answer : StoreAnswer) (keep : Keeping) (r : ℕ) (new : List ℤ) where
  abbrev row : List ℤ
  row = row_as_it_stands job r

  abbrev index : List ℕ
  index = index_at job.extents r

  abbrev tried : Result (Option (List ℤ)) UpdateFault
  tried = tried_row answer job.filter job.sets r row index

  -- a row behind the plain update: what it is given, and what stands
  pub record IsRowUpdated (through : Bool) : Type 0 where
    pub writes : if_given tried (stores_log r job.sets) ≡ (if through then stores_log r job.sets else [])
    pub long : length new ≡ length row
    pub same : (f : ℕ) → is_in (map (λ s. s.leaf) job.sets) f ≡ false → get_or row f (pos 0) ≡ get_or new f (pos 0)
    pub left : through ≡ false → row ≡ new

  row_updated : updated_row answer keep job.filter job.sets r row index ≡ Ok new → IsRowUpdated (lets_through job r)
  row_updated plain = by_test (passes r row index job.filter) refl (sym (updated_as_tried answer job.filter job.sets r row index keep) ∙ plain) where
    values : Result (List ℤ) UpdateFault
    values = each (new_value answer r row index) job.sets

    by_values : (found : Result (List ℤ) UpdateFault) → lets_through job r ≡ true → tried ≡ (found >>= (λ v. Ok (Some v)))
        → ((found >>= (λ v. Ok (Some v))) >>= (λ given. Ok (given_row keep job.sets given row))) ≡ Ok new → IsRowUpdated (lets_through job r)
    by_values found through tried_is is = grind (arith, length-with_values, values_other)

    by_test : (test : Result Bool UpdateFault) → passes r row index job.filter ≡ test → (tried >>= (λ given. Ok (given_row keep job.sets given row))) ≡ Ok new → IsRowUpdated (lets_through job r)
    by_test test e is = grind (arith, by_values, passed)

module _ (old : Table) (filter : Option (Term ℕ)) (sets : List Setting) (rows : List (List ℤ)) (plain : updated_of old filter sets (length old.rows) ≡ Ok rows) (count : length rows ≡ length old.rows) where
  abbrev job : Job
  job = job_of old filter sets

  -- the rows so far are those of the plain update
  abbrev rows_so_far : ℕ → List (List ℤ)
  rows_so_far n = take n rows ++ drop n old.rows

  pub record AreBack (view : Table) (n : ℕ) : Type 0 where
    pub same : view ≡ after_stores old (rows_so_far n) (writes_in (update_log old filter sets n))

  pub none_back : AreBack old 0
  none_back = record { same = sym (after_log-none old) }

  so_far_long : (n : ℕ) → n ≤ length old.rows → length (rows_so_far n) ≡ length old.rows
  so_far_long n low = grind (arith, length-append, length-take, length-drop)

  here_is : (n : ℕ) → n < length old.rows → get_or (rows_so_far n) n [] ≡ get_or old.rows n []
  here_is n low = grind (arith, length-take, get_or-append_right, get_or-drop)

  set_here : (n : ℕ) → n < length old.rows → set (rows_so_far n) n (get_or rows n []) ≡ rows_so_far (n + 1)
  set_here n low =
      let next : drop n old.rows ≡ get_or old.rows n [] ∷ drop (n + 1) old.rows = drop_more old.rows n [] low in
      let more : take (n + 1) rows ≡ take n rows ++ get_or rows n [] ∷ [] = take_more rows n [] (omega (arith, low, count)) in
      let front : length (take n rows) ≡ n = (let long = length-take n rows in omega (arith, long, low, count)) in
      let none : n - n ≡ 0 = omega arith in
      ap (λ (w : List (List ℤ)). set (take n rows ++ w) n (get_or rows n [])) next
      ∙ set-append_right (take n rows) (get_or old.rows n [] ∷ drop (n + 1) old.rows) n n (get_or rows n []) front (omega arith)
      ∙ ap (λ (k : ℕ). take n rows ++ set (get_or old.rows n [] ∷ drop (n + 1) old.rows) k (get_or rows n [])) none
      ∙ sym (append_assoc (take n rows) (get_or rows n [] ∷ []) (drop (n + 1) old.rows)) ∙ ap (λ (w : List (List ℤ)). w ++ drop (n + 1) old.rows) (sym more)

  updated_here : (n : ℕ) → n < length old.rows → IsRowUpdated job (answer_of old) (kept_of old) n (get_or rows n []) (lets_through job n)
  updated_here n low = row_updated job (answer_of old) (kept_of old) n (get_or rows n []) (updated_at (answer_of old) (kept_of old) filter sets old.extents old.rows rows (length old.rows) n plain low)

  writes_more : (n : ℕ) (through : Bool) → n < length old.rows → lets_through job n ≡ through
      → writes_in (update_log old filter sets (n + 1)) ≡ writes_in (update_log old filter sets n) ++ (if through then stores_log n sets else [])
  writes_more n through low is = grind (arith, logs_more, filter-append, row_writes, updated_here)

  -- a row that the filter lets through is stored
  pub row_back : (view new : Table) (n : ℕ) (held : List ℤ) → n < length old.rows → lets_through job n ≡ true → held ≡ get_or rows n [] → AreBack view n
      → new ≡ after_stores view (set view.rows n (with_held sets held (get_or view.rows n []))) (stores_log n sets) → AreBack new (n + 1)
  row_back view new n held low through held_same so_far stored =
      let here = updated_here n low in
      let view_rows : view.rows ≡ rows_so_far n = ap (λ (t : Table). t.rows) so_far.same in
      let row_same : get_or view.rows n [] ≡ get_or old.rows n [] = ap (λ (r : List (List ℤ)). get_or r n []) view_rows ∙ here_is n low in
      let made : with_held sets held (get_or view.rows n []) ≡ get_or rows n [] = grind (arith, held_is) in
      let new_rows : set view.rows n (with_held sets held (get_or view.rows n [])) ≡ rows_so_far (n + 1) =
      ap (set view.rows n) made ∙ ap (λ (r : List (List ℤ)). set r n (get_or rows n [])) view_rows ∙ set_here n low in
      record {
        same = stored ∙ ap (λ (r : List (List ℤ)). after_stores view r (stores_log n sets)) new_rows
            ∙ ap (λ (t : Table). after_stores t (rows_so_far (n + 1)) (stores_log n sets)) so_far.same
            ∙ after_stores-append old (rows_so_far n) (rows_so_far (n + 1)) (writes_in (update_log old filter sets n)) (stores_log n sets)
            ∙ ap (after_stores old (rows_so_far (n + 1))) (sym (writes_more n true low through));
      }

  -- and one that it leaves out stands
  pub row_stands : (view : Table) (n : ℕ) → n < length old.rows → lets_through job n ≡ false → AreBack view n → AreBack view (n + 1)
  row_stands view n low out so_far =
      let here = updated_here n low in
      let same : get_or rows n [] ≡ get_or (rows_so_far n) n [] = sym (here.left out) ∙ sym (here_is n low) in
      let rows_same : rows_so_far n ≡ rows_so_far (n + 1) = sym (set-get_or (rows_so_far n) n []) ∙ ap (set (rows_so_far n) n) (sym same) ∙ set_here n low in
      record {
        same = so_far.same ∙ ap (λ (r : List (List ℤ)). after_stores old r (writes_in (update_log old filter sets n))) rows_same
            ∙ ap (after_stores old (rows_so_far (n + 1))) (sym (writes_more n false low out ∙ append-nil (writes_in (update_log old filter sets n))));
      }

  pub all_back : (view : Table) (n : ℕ) → n ≡ length old.rows → AreBack view n → view ≡ after_stores old rows (writes_in (update_log old filter sets (length old.rows)))
  all_back view n whole so_far = grind (arith, take_all, drop_all, append-nil)

  -- either way one row more is that of the plain update
  pub one_back : (view new : Table) (n : ℕ) (held : List ℤ) (through : Bool) → n < length old.rows → through ≡ lets_through job n → held ≡ get_or rows n [] → AreBack view n
      → (through ≡ true → new ≡ after_stores view (set view.rows n (with_held sets held (get_or view.rows n []))) (stores_log n sets)) → (through ≡ false → new ≡ view) → AreBack new (n + 1)
  one_back view new n held true low is held_same so_far stored left = row_back view new n held low (sym is) held_same so_far (stored refl)
  one_back view new n held false low is held_same so_far stored left = subst (λ (t : Table). AreBack t (n + 1)) (sym (left refl)) (row_stands view n low (sym is) so_far)

  pub back_count : (view : Table) (n : ℕ) → n ≤ length old.rows → AreBack view n → length view.rows ≡ length old.rows
  back_count view n low so_far = ap (λ (t : Table). length t.rows) so_far.same ∙ so_far_long n low

  -- the memory of the plain update holds its rows, and the table so far takes each number as it is
  module _ (view : Table) (n m : ℕ) (low : m ≤ length old.rows) (so_far : AreBack view m) (memory : List (List ℕ)) (lawful : IsLawful (record old { rows = rows })) (is : memory ≡ memory_of (record old { rows = rows })) where
    abbrev new_rows : Table
    new_rows = record old { rows = rows }

    pub back_sized : AreSized (owners_of view) memory
    back_sized = subst (λ (t : Table). AreSized (owners_of t) memory) (sym so_far.same) (subst (AreSized (owners_of old)) (sym is) (memory_is new_rows lawful).sized)

    pub back_held : row_held view memory n ≡ get_or rows n []
    back_held =
        ap (λ (t : Table). row_held t memory n) so_far.same
        ∙ ap (λ (k : ℕ). get_or (declared_table (leaf_types_of old) (table_in (owners_of old) k (table_holds old) memory)) n []) (so_far_long m low ∙ sym count)
        ∙ ap (λ (w : List (List ℕ)). get_or (declared_table (leaf_types_of old) (table_in (owners_of old) (length rows) (table_holds old) w)) n []) is
        ∙ ap (λ (t : List (List ℤ)). get_or t n []) (rows_read new_rows lawful)

    pub back_takes : (leaf : ℕ) → n < length old.rows → leaf < leaf_count_of view
        → answer_of view leaf (get_or (row_held view memory n) leaf (pos 0)) ≡ Ok (get_or (row_held view memory n) leaf (pos 0))
    back_takes leaf inside leaf_in =
        let value = get_or (row_held view memory n) leaf (pos 0) in
        let value_is : value ≡ entry rows n leaf = ap (λ (w : List ℤ). get_or w leaf (pos 0)) back_held in
        let leaves_same : leaf_count_of view ≡ leaf_count_of old = ap (λ (t : Table). leaf_count_of t) so_far.same in
        let stays = lawful.is_table.stays n leaf (omega (arith, inside, count)) (omega (arith, leaf_in, leaves_same, leaf_count old)) in
        grind (arith, stays_answer)

    pub back_sets : (assigns : List Assign) → All (IsSetOf old) assigns → All (IsSetOf view) assigns
    back_sets assigns all k d inside = grind arith
