-- Rows that a view of a header may hold, and those that commands make of them.
use Rattle.saved_runs.proofs.Imports.{◌≡◌, ℕ, zero, suc, ◌+◌, ◌<◌, ◌≤◌, ⊎_elim, Bool, true, ℤ, pos, List, [], ◌∷◌, length, map, get_or, set, Option, Some, None, Result, Ok, is_ok, if◌then◌else◌, sym, ◌∙◌, subst, arith, get_or-set_other, get_or-set_same, enumerate_from, cases_eq, length-map, pow_pos, length-enumerate_from, length-set, indices, LeafType, Leaf, leaves, kinds_of, IsIn, IsDeclared, holds_by, HasShape, hold_at, with_entry, zeros, zeros_shape, zeros_entry, fitting_stays, kind_at, Stays, answer_stays, kept_or, kept_by, kept_row, kept_rows, StoreFault, refusing, refused_at, spot_or, Spot, Each, Header, AreRows, answer_by}

-- ---- rows one by one

abbrev pub stays_at : Header → ℕ → ℤ → Type 0
stays_at header leaf value = Stays header.mode (kind_at (kinds_of header.fields) leaf) (hold_at (holds_by header.mapping header.fields) leaf) value

-- a number for each leaf, and each one that stays
pub record IsRow (header : Header) (values : List ℤ) : Type 0 where
  pub long : length values ≡ length (leaves header.fields)
  pub stays : (leaf : ℕ) → leaf < length (kinds_of header.fields) → stays_at header leaf (get_or values leaf (pos 0))

each_from : {A : Type 0} (P : A → Type 0) (d : A) (xs : List A) → ((k : ℕ) → k < length xs → P (get_or xs k d)) → Each P xs
each_from P d [] f = tt
each_from P d (x ∷ xs) f = (f 0 (omega arith), each_from P d xs (λ k small. f (suc k) (omega (arith, small))))

pub each_at : {A : Type 0} (P : A → Type 0) (d : A) (xs : List A) (k : ℕ) → k < length xs → Each P xs → P (get_or xs k d)
each_at P d [] k small all = absurd (omega (arith, small))
each_at P d (x ∷ xs) zero small all = all.0
each_at P d (x ∷ xs) (suc k) small all = each_at P d xs k (omega (arith, small)) all.1

pub each_row : (header : Header) (rows : List (List ℤ)) → AreRows header rows → Each (IsRow header) rows
each_row header rows are = each_from (IsRow header) [] rows (λ row small. grind arith)

pub are_rows : (header : Header) (rows : List (List ℤ)) → length rows ≡ length (indices header.extents) → Each (IsRow header) rows → AreRows header rows
are_rows header rows count all = record {
  shape = record { row_count = count; leaf_count = λ row inside. (at row inside).long };
  stays = λ row leaf inside l. (at row inside).stays leaf l;
} where
  at : (row : ℕ) → row < length (indices header.extents) → IsRow header (get_or rows row [])
  at row inside = each_at (IsRow header) [] rows row (omega (arith, inside, count)) all

-- ---- one entry set

pub set_row : (header : Header) (values : List ℤ) (leaf : ℕ) (value : ℤ) → IsRow header values → (leaf < length (kinds_of header.fields) → stays_at header leaf value) → IsRow header (set values leaf value)
set_row header values leaf value row stays = record {
  long = length-set values leaf value ∙ row.long;
  stays = λ other l. at other l;
} where
  kinds_long : length (kinds_of header.fields) ≡ length values
  kinds_long = length-map (leaves header.fields) (λ (one : Leaf). one.kind) ∙ sym row.long

  at : (other : ℕ) → other < length (kinds_of header.fields) → stays_at header other (get_or (set values leaf value) other (pos 0))
  at other l = ⊎_elim
      (λ (same : other ≡ leaf).
      let here : leaf < length (kinds_of header.fields) = omega (arith, same, l) in
      let inside : leaf < length values = omega (arith, here, kinds_long) in
      let number : get_or (set values leaf value) leaf (pos 0) ≡ value = get_or-set_same values leaf value (pos 0) inside in
      subst (λ (n : ℕ). stays_at header n (get_or (set values leaf value) n (pos 0))) (sym same) (subst (stays_at header leaf) (sym number) (stays here)))
      (λ (apart : other ≡ leaf → ⊥). grind (arith, get_or, get_or-set_other))
      (cases_eq other leaf)

each_set : {A : Type 0} (P : A → Type 0) (xs : List A) (k : ℕ) (x : A) → Each P xs → (k < length xs → P x) → Each P (set xs k x)
each_set P [] k x all p = tt
each_set P (y ∷ xs) zero x all p = (p (omega arith), all.1)
each_set P (y ∷ xs) (suc k) x all p = (all.0, each_set P xs k x all.1 (λ small. p (omega (arith, small))))

pub entry_rows : (header : Header) (rows : List (List ℤ)) (row leaf : ℕ) (value : ℤ) → AreRows header rows → (leaf < length (kinds_of header.fields) → stays_at header leaf value)
    → AreRows header (with_entry rows row leaf value)
entry_rows header rows row leaf value are stays =
    let all = each_row header rows are in
    let new : List ℤ = set (get_or rows row []) leaf value in
    are_rows header (set rows row new) (length-set rows row new ∙ are.shape.row_count)
    (each_set (IsRow header) rows row new all (λ small. set_row header (get_or rows row []) leaf value (each_at (IsRow header) [] rows row small all) stays))

-- ---- what is kept of values that are taken

-- a header whose holds have a bit at least
module _ (header : Header) (wide : (leaf : ℕ) → leaf < length (kinds_of header.fields) → 1 ≤ (hold_at (holds_by header.mapping header.fields) leaf).width) where
  pub answered_stays : (leaf : ℕ) (value left : ℤ) → leaf < length (kinds_of header.fields) → answer_by header leaf value ≡ Ok left → stays_at header leaf left
  answered_stays leaf value left l is = grind (arith, answer_stays)

  of_answer : (value : ℤ) (r : Result ℤ StoreFault) → is_ok r ≡ true → r ≡ Ok (kept_or value r)
  of_answer value r taken = grind arith

  pub taken_stays : (leaf : ℕ) (value : ℤ) → leaf < length (kinds_of header.fields) → is_ok (answer_by header leaf value) ≡ true → stays_at header leaf (kept_by (answer_by header) leaf value)
  taken_stays leaf value l taken = answered_stays leaf value (kept_by (answer_by header) leaf value) l (of_answer value (answer_by header leaf value) taken)

  -- a row of values that are taken
  abbrev kept_from : ℕ → List ℤ → List ℤ
  kept_from leaf values = map (λ (v : ℕ × ℤ). kept_by (answer_by header) v.0 v.1) (enumerate_from leaf values)

  none_refused : (test : Bool) (leaf : ℕ) (rest : Option ℕ) → (if test then rest else Some leaf) ≡ None → (test ≡ true) × (rest ≡ None)
  none_refused test leaf rest is = grind arith

  values_stay : (leaf : ℕ) (values : List ℤ) → refusing (answer_by header) leaf values ≡ None → (k : ℕ) → k < length values → leaf + k < length (kinds_of header.fields)
      → stays_at header (leaf + k) (get_or (kept_from leaf values) k (pos 0))
  values_stay leaf [] none k small l = absurd (omega (arith, small))
  values_stay leaf (value ∷ values) none zero small l =
      let here : leaf + 0 ≡ leaf = omega arith in
      let inside : leaf < length (kinds_of header.fields) = omega (arith, here, l) in
      let taken = none_refused (is_ok (answer_by header leaf value)) leaf (refusing (answer_by header) (leaf + 1) values) none in
      subst (λ (n : ℕ). stays_at header n (kept_by (answer_by header) leaf value)) (sym here) (taken_stays leaf value inside taken.0)
  values_stay leaf (value ∷ values) none (suc k) small l =
      let next : leaf + 1 + k ≡ leaf + suc k = omega arith in
      let taken = none_refused (is_ok (answer_by header leaf value)) leaf (refusing (answer_by header) (leaf + 1) values) none in
      grind (arith, get_or, (values_stay (leaf + 1) values taken.1 k (omega (arith, small)) (omega (arith, next, l))))

  row_stays : (values : List ℤ) → length values ≡ length (leaves header.fields) → refusing (answer_by header) 0 values ≡ None → IsRow header (kept_row (kept_by (answer_by header)) values)
  row_stays values long none = record {
    long = length-map (enumerate_from 0 values) (λ (v : ℕ × ℤ). kept_by (answer_by header) v.0 v.1) ∙ length-enumerate_from 0 values ∙ long;
    stays = λ leaf l.
        (let kinds_long : length (kinds_of header.fields) ≡ length values = length-map (leaves header.fields) (λ (one : Leaf). one.kind) ∙ sym long in
        let same : 0 + leaf ≡ leaf = omega arith in
        subst (λ (n : ℕ). stays_at header n (get_or (kept_from 0 values) leaf (pos 0))) same (values_stay 0 values none leaf (omega (arith, l, kinds_long)) (omega (arith, same, l))));
  }

  no_spot : (row : ℕ) (found : Option ℕ) (later : Option Spot) → spot_or row found later ≡ None → (found ≡ None) × (later ≡ None)
  no_spot row found later is = grind arith

  abbrev IsLong : List ℤ → Type 0
  IsLong values = length values ≡ length (leaves header.fields)

  rows_stay : (row : ℕ) (rows : List (List ℤ)) → Each IsLong rows → refused_at (answer_by header) row rows ≡ None → Each (IsRow header) (kept_rows (kept_by (answer_by header)) rows)
  rows_stay row [] all none = tt
  rows_stay row (values ∷ rows) all none =
      let parts = no_spot row (refusing (answer_by header) 0 values) (refused_at (answer_by header) (row + 1) rows) none in
      (row_stays values all.0 parts.0, rows_stay (row + 1) rows all.1 parts.1)

  -- what is kept of rows that are not refused
  pub kept_rows_stay : (rows : List (List ℤ)) → HasShape (length (indices header.extents)) (length (leaves header.fields)) rows → refused_at (answer_by header) 0 rows ≡ None
      → AreRows header (kept_rows (kept_by (answer_by header)) rows)
  kept_rows_stay rows shape none =
      are_rows header (kept_rows (kept_by (answer_by header)) rows) (length-map rows (kept_row (kept_by (answer_by header))) ∙ shape.row_count)
      (rows_stay 0 rows (each_from IsLong [] rows (λ row small. shape.leaf_count row (omega (arith, small, shape.row_count)))) none)

  -- zeros
  zero_in : (signed : Bool) (width : ℕ) → IsIn signed width (pos 0)
  zero_in signed width = grind (arith, pow_pos)

  zero_declared : (kind : LeafType) → IsDeclared kind (pos 0)
  zero_declared kind = grind (arith, zero_in)

  pub zeros_stay : AreRows header (zeros (length (indices header.extents)) (length (leaves header.fields)))
  zeros_stay = record {
    shape = zeros_shape (length (indices header.extents)) (length (leaves header.fields));
    stays = λ row leaf inside l. grind (arith, leaves, length-map, zeros_entry, fitting_stays, zero_declared, zero_in);
  }
