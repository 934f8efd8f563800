-- The rows that updates, kernels and datasets leave.
use Rattle.saved_runs.proofs.Imports.{◌≡◌, ℕ, zero, suc, ◌+◌, ◌<◌, ◌≤◌, Bool, true, false, ℤ, List, [], ◌∷◌, length, map, get_or, Option, Some, None, Result, Ok, is_ok, if◌then◌else◌, sym, ap, ◌∙◌, subst, arith, append-nil, range_with_len, option_or, length-map, drop_all, take-length, Term, index_at, kinds_of, holds_by, hold_at, kept_by, StoreFault, Setting, each, in_row, store_kind, value_of, passes, new_value, updated_row, with_values, UpdateFault, UpdateKind, Store, stored, with_store, run_rows, answer_fault, kernel_store_fault, first_row_fault, empty_fault, kernel_fault, KernelFault, Kernel, Each, Header, AreRows, answer_by}
use Rattle.row_updates.specs.Rows.{◌>>=◌}
use Rattle.saved_runs.proofs.Rows.{IsRow, each_at, each_row, are_rows, set_row, taken_stays}
use Rattle.saved_runs.proofs.Went.{Went}

-- an answer that is given was given at each of its steps
ran : {A B : Type 0} (x : Result A UpdateFault) (f : A → Result B UpdateFault) (b : B) → (x >>= f) ≡ Ok b → Went x f b
ran x f b is = grind arith

abbrev given : {A : Type 0} → A → Result A UpdateFault
given x = Ok x

same_answers : {A : Type 0} (x y : A) → given x ≡ given y → x ≡ y
same_answers x y is = cc

taken_in : (number : ℕ) (kind : StoreFault → UpdateKind) (answer : Result ℤ StoreFault) (kept : ℤ) → in_row number kind answer ≡ Ok kept → is_ok answer ≡ true
taken_in number kind answer kept is = grind arith

-- a header whose holds have a bit at least
module _ (header : Header) (wide : (leaf : ℕ) → leaf < length (kinds_of header.fields) → 1 ≤ (hold_at (holds_by header.mapping header.fields) leaf).width) where
  -- ---- updates

  values_set : (number : ℕ) (row : List ℤ) (index : List ℕ) (sets : List Setting) (values now : List ℤ) → each (new_value (answer_by header) number row index) sets ≡ Ok values → IsRow header now
      → IsRow header (with_values (kept_by (answer_by header)) sets values now)
  values_set number row index [] values now is one = one
  values_set number row index (set ∷ sets) values now is one =
      let a = ran (new_value (answer_by header) number row index set) _ values is in
      let b = ran (each (new_value (answer_by header) number row index) sets) _ values a.next in
      let c = ran (value_of number row index set.value) _ a.thing a.first in
      let d = ran (in_row number (store_kind set.leaf) (answer_by header set.leaf c.thing)) _ a.thing c.next in
      let value : c.thing ≡ a.thing = same_answers c.thing a.thing d.next in
      let taken : is_ok (answer_by header set.leaf a.thing) ≡ true =
      subst (λ (v : ℤ). is_ok (answer_by header set.leaf v) ≡ true) value (taken_in number (store_kind set.leaf) (answer_by header set.leaf c.thing) d.thing d.first) in
      let stored_now = set_row header now set.leaf (kept_by (answer_by header) set.leaf a.thing) one (λ l. taken_stays header wide set.leaf a.thing l taken) in
      grind (arith, same_answers, (values_set number row index sets b.thing _ b.first stored_now))

  row_updated : (filter : Option (Term ℕ)) (sets : List Setting) (number : ℕ) (row : List ℤ) (index : List ℕ) (new : List ℤ)
      → updated_row (answer_by header) (kept_by (answer_by header)) filter sets number row index ≡ Ok new → IsRow header row → IsRow header new
  row_updated filter sets number row index new is one =
      let a = ran (passes number row index filter) _ new is in
      of_test a.thing a.next
    where
      of_test : (test : Bool) → (if test then (each (new_value (answer_by header) number row index) sets >>= (λ values. Ok (with_values (kept_by (answer_by header)) sets values row))) else Ok row) ≡ Ok new → IsRow header new
      of_test true is =
          let b = ran (each (new_value (answer_by header) number row index) sets) _ new is in
          subst (IsRow header) (same_answers (with_values (kept_by (answer_by header)) sets b.thing row) new b.next) (values_set number row index sets b.thing row b.first one)
      of_test false is = subst (IsRow header) (same_answers row new is) one

  -- the first rows of a table
  rows_updated : (filter : Option (Term ℕ)) (sets : List Setting) (extents : List ℕ) (rows : List (List ℤ)) → Each (IsRow header) rows → (first count : ℕ) (new : List (List ℤ)) → first + count ≤ length rows
      → each (λ number. updated_row (answer_by header) (kept_by (answer_by header)) filter sets number (get_or rows number []) (index_at extents number)) (range_with_len first count) ≡ Ok new
      → (length new ≡ count) × Each (IsRow header) new
  rows_updated filter sets extents rows all first zero new inside is = grind (arith, same_answers)
  rows_updated filter sets extents rows all first (suc count) new inside is =
      let a = ran (updated_row (answer_by header) (kept_by (answer_by header)) filter sets first (get_or rows first []) (index_at extents first)) _ new is in
      let b = ran (each (λ number. updated_row (answer_by header) (kept_by (answer_by header)) filter sets number (get_or rows number []) (index_at extents number)) (range_with_len (first + 1) count)) _ new a.next in
      let here = row_updated filter sets first (get_or rows first []) (index_at extents first) a.thing a.first (each_at (IsRow header) [] rows first (omega (arith, inside)) all) in
      let later = rows_updated filter sets extents rows all (first + 1) count b.thing (omega (arith, inside)) b.first in
      subst (λ (ys : List (List ℤ)). (length ys ≡ suc count) × Each (IsRow header) ys) (same_answers (a.thing ∷ b.thing) new b.next) (ap suc later.0, (here, later.1))

  pub update_stays : (filter : Option (Term ℕ)) (sets : List Setting) (extents : List ℕ) (rows new : List (List ℤ)) → AreRows header rows
      → each (λ number. updated_row (answer_by header) (kept_by (answer_by header)) filter sets number (get_or rows number []) (index_at extents number)) (range_with_len 0 (length rows)) ≡ Ok new → AreRows header new
  update_stays filter sets extents rows new are is =
      let now = rows_updated filter sets extents rows (each_row header rows are) 0 (length rows) new (omega arith) is in
      are_rows header new (now.0 ∙ are.shape.row_count) now.1

  -- ---- kernels

  not_refused : (row leaf : ℕ) (answer : Result ℤ StoreFault) → answer_fault row leaf answer ≡ None → is_ok answer ≡ true
  not_refused row leaf answer is = grind arith

  store_stays : (row : ℕ) (values : List ℤ) (store : Option Store) → kernel_store_fault (answer_by header) row store ≡ None → IsRow header values → IsRow header (with_store (kept_by (answer_by header)) values store)
  store_stays row values None is one = one
  store_stays row values (Some store) is one =
      set_row header values store.leaf (kept_by (answer_by header) store.leaf store.value) one
      (λ l. taken_stays header wide store.leaf store.value l (not_refused row store.leaf (answer_by header store.leaf store.value) is))

  neither : (one other : Option KernelFault) → option_or one other ≡ None → (one ≡ None) × (other ≡ None)
  neither one other is = grind arith

  rows_run : (kernel : Kernel) (row : ℕ) (rows : List (List ℤ)) → first_row_fault (answer_by header) kernel row rows ≡ None → Each (IsRow header) rows
      → Each (IsRow header) (map (λ values. with_store (kept_by (answer_by header)) values (stored kernel values)) rows)
  rows_run kernel row [] is all = tt
  rows_run kernel row (values ∷ rows) is all =
      let parts = neither (kernel_store_fault (answer_by header) row (stored kernel values)) (first_row_fault (answer_by header) kernel (row + 1) rows) is in
      (store_stays row values (stored kernel values) parts.0 all.0, rows_run kernel (row + 1) rows parts.1 all.1)

  pub kernel_stays : (kernel : Kernel) (rows : List (List ℤ)) → AreRows header rows → kernel_fault (answer_by header) kernel rows ≡ None
      → AreRows header (run_rows (kept_by (answer_by header)) kernel (length rows) rows)
  kernel_stays kernel rows are is =
      let done : List ℤ → List ℤ = λ values. with_store (kept_by (answer_by header)) values (stored kernel values) in
      let parts = neither (empty_fault kernel rows) (first_row_fault (answer_by header) kernel 0 rows) is in
      let all : run_rows (kept_by (answer_by header)) kernel (length rows) rows ≡ map done rows = grind (arith, take-length, drop_all, append-nil) in
      subst (AreRows header) (sym all) (are_rows header (map done rows) (length-map rows done ∙ are.shape.row_count) (rows_run kernel 0 rows parts.1 (each_row header rows are)))
