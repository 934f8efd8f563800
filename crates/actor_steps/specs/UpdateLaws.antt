-- What an actor makes of a row is what the plain update makes of it.
use Rattle.std.specs.Prelude.{◌≡◌, ℕ, ◌+◌, ◌<◌, Bool, true, ℤ, pos, List, [], ◌∷◌, length, get_or, set, Result, Ok, Err, Option, refl, ◌==◌, ◌&&◌, if◌then◌else◌}
use Rattle.actor_steps.specs.Imports.{cond_both, sym, ap, ◌∙◌, subst, ⊎_elim, arith, range_with_len, cases_eq, and_from, and_parts, eq-eqb, eqb-true, length-set, get_or-set_same, get_or-set_other, get_or-range_with_len, length-range_with_len, Term, outcome_of, is_true, EvalFault, index_at, entry, StoreAnswer, Keeping, kept_or, kept_by, StoreFault, UpdateFault, Setting, each, each_at, each_length, parted, ◌>>=◌, in_row, eval_kind, store_kind, passes, new_value, with_values, updated_row, updated_rows}
use Rattle.actor_steps.specs.Micro.{Job, row_as_it_stands, number_in, value_kept_on, test_of}
use Rattle.actor_steps.specs.HeldLaws.{with_value}
use Rattle.actor_steps.specs.RowLaws.{set_entries, row_entries}

-- the answer to a store, behind a value
kept_first : (number leaf : ℕ) (value : ℤ) (kept : Result ℤ StoreFault) (y : ℤ) → (in_row number (store_kind leaf) kept >>= (λ k. Ok value)) ≡ Ok y
    → (value ≡ y) × (k : ℤ) × (kept ≡ Ok k)
kept_first number leaf value kept y e = grind arith

-- a right side that is no fault, its value, and the answer to a store of it
valued : (answer : ℤ → Result ℤ StoreFault) (number leaf : ℕ) (value : Result ℤ EvalFault) (y : ℤ)
    → (in_row number eval_kind value >>= (λ v. in_row number (store_kind leaf) (answer v) >>= (λ k. Ok v))) ≡ Ok y
    → (number_in value ≡ y) × (k : ℤ) × (answer y ≡ Ok k)
valued answer number leaf (Ok v) y e =
    (let both = kept_first number leaf v (answer v) y e in (both.0, both.1, subst (λ (w : ℤ). answer w ≡ Ok both.1) both.0 both.2))
valued answer number leaf (Err fault) y e = absurd (cc)

-- a filter that is no fault
tested : (number : ℕ) (value : Result ℤ EvalFault) (test : Bool) → (in_row number eval_kind value >>= (λ v. Ok (is_true v))) ≡ Ok test → is_true (number_in value) ≡ test
tested number value test e = grind arith

-- whether the filter lets the row through
pub passed : (job : Job) (r : ℕ) (filter : Option (Term ℕ)) (test : Bool) → passes r (row_as_it_stands job r) (index_at job.extents r) filter ≡ Ok test → test_of job r filter ≡ test
passed job r filter test e = grind (arith, tested)

-- a row with values has as many numbers as before
pub length-with_values : (keep : Keeping) (sets : List Setting) (values row : List ℤ) → length (with_values keep sets values row) ≡ length row
length-with_values keep [] values row = refl
length-with_values keep (set ∷ sets) [] row = refl
length-with_values keep (s ∷ sets) (value ∷ values) row = grind (arith, length-set, (length-with_values keep sets values (set row s.leaf (keep s.leaf value))))

module _ (job : Job) (answer : StoreAnswer) (r : ℕ) where
  -- the entries after some sets are the numbers of the row after them
  sets_same : (sets : List Setting) (values line : List ℤ) (entries : ℕ → ℕ → ℤ) → each (new_value answer r (row_as_it_stands job r) (index_at job.extents r)) sets ≡ Ok values
      → ((f : ℕ) → f < length line → entries r f ≡ get_or line f (pos 0)) → (f : ℕ) → f < length line
      → set_entries job r sets entries r f ≡ get_or (with_values job.kept sets values line) f (pos 0)
  sets_same [] values line entries all same f inside = same f inside
  sets_same (s ∷ sets) values line entries all same f inside =
      let p = parted (new_value answer r (row_as_it_stands job r) (index_at job.extents r) s) (each (new_value answer r (row_as_it_stands job r) (index_at job.extents r)) sets) values all in
      let value = job.kept s.leaf p.y in
      let is : value_kept_on job (row_as_it_stands job r) r s ≡ value =
      ap (job.kept s.leaf) (valued (answer s.leaf) r s.leaf (outcome_of (row_as_it_stands job r) (index_at job.extents r) s.value).answer p.y p.first_is).0 in
      let next : List ℤ = set line s.leaf value in
      let long : length next ≡ length line = length-set line s.leaf value in
      ap (λ (v : ℤ). set_entries job r sets (with_value r s.leaf v entries) r f) is
      ∙ sets_same sets p.ys next (with_value r s.leaf value entries) p.rest_is
      (λ g low. one_same s.leaf value g (omega (arith, low, long)) same) f (omega (arith, inside, long))
      ∙ ap (λ (w : List ℤ). get_or (with_values job.kept (s ∷ sets) w line) f (pos 0)) (sym p.all_are) where
        one_same : (leaf : ℕ) (value : ℤ) (g : ℕ) → g < length line → ((f : ℕ) → f < length line → entries r f ≡ get_or line f (pos 0))
            → with_value r leaf value entries r g ≡ get_or (set line leaf value) g (pos 0)
        one_same leaf value g low same =
            ⊎_elim (λ (here : g ≡ leaf).
            ap (λ (t : Bool). if t then value else entries r g) (and_from (r == r) (g == leaf) (eq-eqb r r refl) (eq-eqb g leaf here))
            ∙ sym (get_or-set_same line leaf value (pos 0) (omega (arith, low, here)))
            ∙ ap (λ (w : ℕ). get_or (set line leaf value) w (pos 0)) (sym here))
            (λ (other : g ≡ leaf → ⊥).
            cond_both (r == r && g == leaf) value (entries r g) (λ (v : ℤ). v ≡ entries r g) (λ e. absurd (other (eqb-true g leaf (and_parts (r == r) (g == leaf) e).1))) (λ e. refl)
            ∙ same g low ∙ sym (get_or-set_other line leaf g value (pos 0) other))
            (cases_eq g leaf)

  -- a row after the plain update
  pub row_same : (new : List ℤ) → updated_row answer job.kept job.filter job.sets r (row_as_it_stands job r) (index_at job.extents r) ≡ Ok new → (f : ℕ) → f < length (row_as_it_stands job r)
      → row_entries job r (entry job.rows) r f ≡ get_or new f (pos 0)
  row_same new plain f inside = by_test (passes r (row_as_it_stands job r) (index_at job.extents r) job.filter) refl plain where
    values : Result (List ℤ) UpdateFault
    values = each (new_value answer r (row_as_it_stands job r) (index_at job.extents r)) job.sets

    by_values : (found : Result (List ℤ) UpdateFault) → values ≡ found → (found >>= (λ v. Ok (with_values job.kept job.sets v (row_as_it_stands job r)))) ≡ Ok new
        → set_entries job r job.sets (entry job.rows) r f ≡ get_or new f (pos 0)
    by_values found e is = grind (arith, sets_same)

    by_test : (found : Result Bool UpdateFault) → passes r (row_as_it_stands job r) (index_at job.extents r) job.filter ≡ found
        → (found >>= (λ t. if t then (values >>= (λ v. Ok (with_values job.kept job.sets v (row_as_it_stands job r)))) else Ok (row_as_it_stands job r))) ≡ Ok new
        → row_entries job r (entry job.rows) r f ≡ get_or new f (pos 0)
    by_test found e is = grind (arith, passed, by_values)

module _ (answer : StoreAnswer) (number : ℕ) (row : List ℤ) (index : List ℕ) (P : ℕ → ℤ → Type 0)
    (stored : (leaf : ℕ) (value left : ℤ) → leaf < length row → answer leaf value ≡ Ok left → P leaf left) where
  -- a fact of each number of a row, and of what each store leaves, is one of each number of the row after the update
  sets_keep : (sets : List Setting) (values line : List ℤ) → each (new_value answer number row index) sets ≡ Ok values → length line ≡ length row
      → ((f : ℕ) → f < length row → P f (get_or line f (pos 0))) → (f : ℕ) → f < length row → P f (get_or (with_values (kept_by answer) sets values line) f (pos 0))
  sets_keep [] values line all long holds f inside = holds f inside
  sets_keep (s ∷ sets) values line all long holds f inside =
      let p = parted (new_value answer number row index s) (each (new_value answer number row index) sets) values all in
      let found = valued (answer s.leaf) number s.leaf (outcome_of row index s.value).answer p.y p.first_is in
      let value = kept_by answer s.leaf p.y in
      let left : value ≡ found.1 = ap (kept_or p.y) found.2 in
      subst (λ (w : List ℤ). P f (get_or (with_values (kept_by answer) (s ∷ sets) w line) f (pos 0))) (sym p.all_are)
      (sets_keep sets p.ys (set line s.leaf value) p.rest_is (length-set line s.leaf value ∙ long)
      (λ g low. grind (arith, get_or-set_same, get_or-set_other, cases_eq)) f inside)

  pub row_keeps : (filter : Option (Term ℕ)) (sets : List Setting) (new : List ℤ) → updated_row answer (kept_by answer) filter sets number row index ≡ Ok new
      → ((f : ℕ) → f < length row → P f (get_or row f (pos 0))) → (length new ≡ length row) × ((f : ℕ) → f < length row → P f (get_or new f (pos 0)))
  row_keeps filter sets new plain holds = by_test (passes number row index filter) plain where
    by_values : (found : Result (List ℤ) UpdateFault) → each (new_value answer number row index) sets ≡ found
        → (found >>= (λ v. Ok (with_values (kept_by answer) sets v row))) ≡ Ok new → (length new ≡ length row) × ((f : ℕ) → f < length row → P f (get_or new f (pos 0)))
    by_values (Ok found) e is =
        (let same : with_values (kept_by answer) sets found row ≡ new = cc in (
          ap length (sym same) ∙ length-with_values (kept_by answer) sets found row,
          λ f inside. subst (λ (w : List ℤ). P f (get_or w f (pos 0))) same (sets_keep sets found row e refl holds f inside),
        ))
    by_values (Err fault) e is = absurd (cc)

    by_test : (found : Result Bool UpdateFault)
        → (found >>= (λ t. if t then (each (new_value answer number row index) sets >>= (λ v. Ok (with_values (kept_by answer) sets v row))) else Ok row)) ≡ Ok new
        → (length new ≡ length row) × ((f : ℕ) → f < length row → P f (get_or new f (pos 0)))
    by_test found is = grind (arith, by_values)

-- the rows of an update, one by one
pub updated_at : (answer : StoreAnswer) (keep : Keeping) (filter : Option (Term ℕ)) (sets : List Setting) (extents : List ℕ) (rows new : List (List ℤ)) (count r : ℕ)
    → updated_rows answer keep filter sets extents rows count ≡ Ok new → r < count
    → updated_row answer keep filter sets r (get_or rows r []) (index_at extents r) ≡ Ok (get_or new r [])
updated_at answer keep filter sets extents rows new count r all inside =
    let step : ℕ → Result (List ℤ) UpdateFault = λ number. updated_row answer keep filter sets number (get_or rows number []) (index_at extents number) in
    let number : get_or (range_with_len 0 count) r 0 ≡ r = get_or-range_with_len 0 count r 0 inside ∙ (let on : 0 + r ≡ r = omega arith in on) in
    let low : r < length (range_with_len 0 count) = omega (arith, length-range_with_len 0 count, inside) in
    sym (ap step number) ∙ each_at step (range_with_len 0 count) new r 0 [] low all

pub updated_length : (answer : StoreAnswer) (keep : Keeping) (filter : Option (Term ℕ)) (sets : List Setting) (extents : List ℕ) (rows new : List (List ℤ)) (count : ℕ)
    → updated_rows answer keep filter sets extents rows count ≡ Ok new → length new ≡ count
updated_length answer keep filter sets extents rows new count all =
    let step : ℕ → Result (List ℤ) UpdateFault = λ number. updated_row answer keep filter sets number (get_or rows number []) (index_at extents number) in
    each_length step (range_with_len 0 count) new all ∙ length-range_with_len 0 count
