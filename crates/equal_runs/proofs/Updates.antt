-- What an update answers, by the answers to its stores.
use Rattle.equal_runs.proofs.Imports.{◌≡◌, ℕ, Bool, true, false, ℤ, List, [], ◌∷◌, Option, Result, Ok, Err, refl, ap, ◌∙◌, if◌then◌else◌, flat_map, range_with_len, Term, index_at, StoreAnswer, Keeping, Access, StoreFault, Setting, each, in_row, store_kind, value_of, passes, new_value, with_values, updated_row, updated_rows, value_log, filter_log, if_ok, if_passes, sides_log, stores_log, row_log, rows_log, UpdateFault, UpdateKind, ◌++◌, arith, slice_index_or}
use Rattle.row_updates.specs.Rows.{◌>>=◌}
use Rattle.row_updates.specs.declared.fault.UpdateKind.TheVariants.{Narrow}
use Rattle.equal_runs.proofs.Agreeing.{go, fault as fails, mapped}
use Rattle.equal_runs.proofs.Answers.{Answers, equal, is_narrow}

abbrev pub is_narrow_kind : UpdateKind → Bool
is_narrow_kind (Narrow leaf) = true
is_narrow_kind _ = false

abbrev pub is_narrow_update : UpdateFault → Bool
is_narrow_update fault = is_narrow_kind fault.kind

-- one thing after another, and one thing before both
bind : {A B Alike : Type 0} (x y : Result A UpdateFault) (f g : A → Result B UpdateFault) → Answers is_narrow_update Alike x y
    → ((a b : A) → (Alike → b ≡ a) → Answers is_narrow_update Alike (f a) (g b)) → Answers is_narrow_update Alike (x >>= f) (y >>= g)
bind x y f g agree next = mapped (λ e. e) (λ z. z >>= f) (λ z. z >>= g) (λ e. refl) (λ e. refl) (λ e is. is) (λ e is. is) agree next

before : {A B Alike : Type 0} (x : Result A UpdateFault) (f g : A → Result B UpdateFault) → ((a : A) → Answers is_narrow_update Alike (f a) (g a)) → Answers is_narrow_update Alike (x >>= f) (x >>= g)
before (Ok a) f g next = next a
before (Err e) f g next = fails e

each_answers : {A B Alike : Type 0} (step other : A → Result B UpdateFault) → ((a : A) → Answers is_narrow_update Alike (step a) (other a)) → (xs : List A)
    → Answers is_narrow_update Alike (each step xs) (each other xs)
each_answers step other alike [] = equal (Ok [])
each_answers {A} {B} step other alike (x ∷ xs) =
    bind (step x) (other x) (λ y. each step xs >>= (λ ys. Ok (y ∷ ys))) (λ y. each other xs >>= (λ ys. Ok (y ∷ ys))) (alike x)
    (λ y z same. grind (arith, bind, go, (each_answers step other alike xs)))

narrow_kind : (leaf : ℕ) (e : StoreFault) → is_narrow e ≡ true → is_narrow_kind (store_kind leaf e) ≡ true
narrow_kind leaf e is = grind arith

in_row_answers : {Alike : Type 0} (number leaf : ℕ) (x y : Result ℤ StoreFault) → Answers is_narrow Alike x y
    → Answers is_narrow_update Alike (in_row number (store_kind leaf) x) (in_row number (store_kind leaf) y)
in_row_answers number leaf x y agree =
    mapped {F = UpdateFault} (λ e. record { row = number; kind = store_kind leaf e }) (in_row number (store_kind leaf)) (in_row number (store_kind leaf)) (λ e. refl) (λ e. refl) (narrow_kind leaf) (narrow_kind leaf) agree
    (λ a b same. go a b same)

-- two answers to stores that both keep a number, or of which one says that the value is not held, where one `keep` says what is kept
module _ {Alike : Type 0} (keep : Keeping) (answer other : StoreAnswer) (alike : (leaf : ℕ) (value : ℤ) → Answers is_narrow Alike (answer leaf value) (other leaf value)) where
  new_value_answers : (number : ℕ) (row : List ℤ) (index : List ℕ) (set : Setting)
      → Answers is_narrow_update Alike (new_value answer number row index set) (new_value other number row index set)
  new_value_answers number row index set =
      before (value_of number row index set.value)
      (λ value. in_row number (store_kind set.leaf) (answer set.leaf value) >>= (λ kept. Ok value))
      (λ value. in_row number (store_kind set.leaf) (other set.leaf value) >>= (λ kept. Ok value))
      (λ value. bind (in_row number (store_kind set.leaf) (answer set.leaf value)) (in_row number (store_kind set.leaf) (other set.leaf value)) (λ kept. Ok value) (λ kept. Ok value)
      (in_row_answers number set.leaf (answer set.leaf value) (other set.leaf value) (alike set.leaf value)) (λ kept others same. equal (Ok value)))

  row_answers : (filter : Option (Term ℕ)) (sets : List Setting) (number : ℕ) (row : List ℤ) (index : List ℕ)
      → Answers is_narrow_update Alike (updated_row answer keep filter sets number row index) (updated_row other keep filter sets number row index)
  row_answers filter sets number row index =
      before (passes number row index filter)
      (λ test. if test then (each (new_value answer number row index) sets >>= (λ values. Ok (with_values keep sets values row))) else Ok row)
      (λ test. if test then (each (new_value other number row index) sets >>= (λ values. Ok (with_values keep sets values row))) else Ok row)
      of_test
    where
      of_test : (test : Bool) → Answers is_narrow_update Alike
          (if test then (each (new_value answer number row index) sets >>= (λ values. Ok (with_values keep sets values row))) else Ok row)
          (if test then (each (new_value other number row index) sets >>= (λ values. Ok (with_values keep sets values row))) else Ok row)
      of_test false = equal (Ok row)
      of_test true =
          bind (each (new_value answer number row index) sets) (each (new_value other number row index) sets) (λ values. Ok (with_values keep sets values row)) (λ values. Ok (with_values keep sets values row))
          (each_answers (new_value answer number row index) (new_value other number row index) (new_value_answers number row index) sets)
          (λ values others same. go (with_values keep sets values row) (with_values keep sets others row) (λ holds. ap (λ (found : List ℤ). with_values keep sets found row) (same holds)))

  pub rows_answers : (filter : Option (Term ℕ)) (sets : List Setting) (extents : List ℕ) (rows : List (List ℤ)) (count : ℕ)
      → Answers is_narrow_update Alike (updated_rows answer keep filter sets extents rows count) (updated_rows other keep filter sets extents rows count)
  rows_answers filter sets extents rows count = grind (arith, each_answers, slice_index_or, row_answers, range_with_len)

-- the accesses of right sides that all fit, of a row and of rows
abbrev fit_sides : ℕ → List ℤ → List ℕ → List Setting → List Access
fit_sides number row index sets = flat_map (λ set. value_log number row index set.value) sets

abbrev fit_row : Option (Term ℕ) → List Setting → ℕ → List ℤ → List ℕ → List Access
fit_row filter sets number row index =
    filter_log number row index filter ++ if_passes (passes number row index filter) (fit_sides number row index sets ++ stores_log number sets)

abbrev pub fit_rows : Option (Term ℕ) → List Setting → List ℕ → List (List ℤ) → ℕ → List Access
fit_rows filter sets extents rows count = flat_map (λ number. fit_row filter sets number (slice_index_or rows number []) (index_at extents number)) (range_with_len 0 count)

-- where each step goes, these logs are those
abbrev SameLogs : {A B : Type 0} → (A → Result B UpdateFault) → (A → List Access) → (A → List Access) → List A → Type 0
SameLogs {A} {B} step logs others xs = (ys : List B) → each step xs ≡ Ok ys → flat_map logs xs ≡ flat_map others xs

-- what goes, goes in both of its parts
parts : {A B : Type 0} (x : Result A UpdateFault) (f : A → Result B UpdateFault) (y : B) → (x >>= f) ≡ Ok y → (a : A) × (x ≡ Ok a) × (f a ≡ Ok y)
parts (Ok a) f y goes = (a, refl, goes)
parts (Err e) f y goes = absurd (cc)

logs_of_each : {A B : Type 0} (step : A → Result B UpdateFault) (logs others : A → List Access) → ((a : A) (b : B) → step a ≡ Ok b → logs a ≡ others a) → (xs : List A)
    → SameLogs step logs others xs
logs_of_each step logs others same [] ys goes = refl
logs_of_each step logs others same (x ∷ xs) ys goes =
    let one = parts (step x) (λ y. each step xs >>= (λ zs. Ok (y ∷ zs))) ys goes in
    let rest = parts (each step xs) (λ zs. Ok (one.0 ∷ zs)) ys one.2 in
    ap (λ (log : List Access). log ++ flat_map logs xs) (same x one.0 one.1) ∙ ap (λ (log : List Access). others x ++ log) (logs_of_each step logs others same xs rest.0 rest.1)

module _ (keep : Keeping) (answer : StoreAnswer) where
  -- where all right sides fit, which answers there were is no matter
  abbrev SidesFit : ℕ → List ℤ → List ℕ → List Setting → Type 0
  SidesFit number row index sets =
      (values : List ℤ) → each (new_value answer number row index) sets ≡ Ok values → sides_log answer number row index sets ≡ fit_sides number row index sets

  sides_are : (number : ℕ) (row : List ℤ) (index : List ℕ) (sets : List Setting) → SidesFit number row index sets
  sides_are number row index [] values goes = refl
  sides_are number row index (set ∷ sets) values goes =
      let one = parts (new_value answer number row index set) (λ y. each (new_value answer number row index) sets >>= (λ zs. Ok (y ∷ zs))) values goes in
      let rest = parts (each (new_value answer number row index) sets) (λ zs. Ok (one.0 ∷ zs)) values one.2 in
      ap (λ (log : List Access). value_log number row index set.value ++ log)
      (ap (λ (first : Result ℤ UpdateFault). if_ok first (sides_log answer number row index sets)) one.1 ∙ sides_are number row index sets rest.0 rest.1)

  row_is : (filter : Option (Term ℕ)) (sets : List Setting) (number : ℕ) (row : List ℤ) (index : List ℕ) (new : List ℤ) → updated_row answer keep filter sets number row index ≡ Ok new
      → row_log answer filter sets number row index ≡ fit_row filter sets number row index
  row_is filter sets number row index new goes = ap (λ (log : List Access). filter_log number row index filter ++ log) (of_test (passes number row index filter) goes) where
    of_test : (test : Result Bool UpdateFault)
        → (test >>= (λ t. if t then (each (new_value answer number row index) sets >>= (λ values. Ok (with_values keep sets values row))) else Ok row)) ≡ Ok new
        → if_passes test (sides_log answer number row index sets ++ if_ok (each (new_value answer number row index) sets) (stores_log number sets))
        ≡ if_passes test (fit_sides number row index sets ++ stores_log number sets)
    of_test (Ok true) goes =
        let one = parts (each (new_value answer number row index) sets) (λ found. Ok (with_values keep sets found row)) new goes in
        ap (λ (values : Result (List ℤ) UpdateFault). sides_log answer number row index sets ++ if_ok values (stores_log number sets)) one.1
        ∙ ap (λ (log : List Access). log ++ stores_log number sets) (sides_are number row index sets one.0 one.1)
    of_test test goes = refl

  -- those of an update that goes
  pub rows_are : (filter : Option (Term ℕ)) (sets : List Setting) (extents : List ℕ) (rows : List (List ℤ)) (count : ℕ) (new : List (List ℤ))
      → updated_rows answer keep filter sets extents rows count ≡ Ok new → rows_log answer filter sets extents rows count ≡ fit_rows filter sets extents rows count
  rows_are filter sets extents rows count new goes = grind (arith, logs_of_each, slice_index_or, row_is, range_with_len)
