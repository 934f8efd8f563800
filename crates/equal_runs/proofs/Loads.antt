-- What a dataset answers, by how its leaves are held: one table where `Alike` says that their holds keep the same numbers.
use Rattle.equal_runs.proofs.Imports.{◌≡◌, ℕ, suc, Bool, true, false, ℤ, List, [], ◌∷◌, length, Option, Some, None, Result, Ok, Err, refl, arith, slice_get, LeafType, Hold, hold_at, StoreMode, kind_at, kept_or, store_answer, StoreFault, Place, Leaf, the_field, the_number, number_behind_sign, unspaced, refusal, taken, value_at, row_values, table_from, with_columns, columns_of, header_record, records_behind, dataset_table, RowFault, ShortRow, Number, ◌+◌}
use Rattle.csv_rows.specs.Datasets.{◌>>=◌}
use Rattle.csv_rows.specs.declared.fault.RowFault.TheVariants.{Narrow}
use Rattle.equal_runs.proofs.Answers.{Answers, equal, is_narrow, store_answers}
use Rattle.equal_runs.proofs.Agreeing.{go, fault as fails, mapped}

abbrev pub is_narrow_row : RowFault → Bool
is_narrow_row (Narrow row leaf) = true
is_narrow_row _ = false

-- one thing after another, and one thing before both
bind : {A B Alike : Type 0} (x y : Result A RowFault) (f g : A → Result B RowFault) → Answers is_narrow_row Alike x y
    → ((a b : A) → (Alike → b ≡ a) → Answers is_narrow_row Alike (f a) (g b)) → Answers is_narrow_row Alike (x >>= f) (y >>= g)
bind x y f g agree next = mapped (λ e. e) (λ z. z >>= f) (λ z. z >>= g) (λ e. refl) (λ e. refl) (λ e is. is) (λ e is. is) agree next

before : {A B Alike : Type 0} (x : Result A RowFault) (f g : A → Result B RowFault) → ((a : A) → Answers is_narrow_row Alike (f a) (g a)) → Answers is_narrow_row Alike (x >>= f) (x >>= g)
before (Ok a) f g next = next a
before (Err e) f g next = fails e

-- a list that begins with what the one answers, and goes on with what the other does
cons_answers : {A Alike : Type 0} (x y : Result A RowFault) (xs ys : Result (List A) RowFault) → Answers is_narrow_row Alike x y → Answers is_narrow_row Alike xs ys
    → Answers is_narrow_row Alike (x >>= (λ a. xs >>= (λ rest. Ok (a ∷ rest)))) (y >>= (λ a. ys >>= (λ rest. Ok (a ∷ rest))))
cons_answers {A} x y xs ys one others =
    bind x y (λ a. xs >>= (λ rest. Ok (a ∷ rest))) (λ a. ys >>= (λ rest. Ok (a ∷ rest))) one (λ a b same. grind (arith, bind, go))

-- what two holds keep of each value is the same
abbrev pub KeepAlike : StoreMode → LeafType → Hold → Hold → Type 0
KeepAlike mode kind hold held = (value : ℤ) → kept_or value (store_answer mode kind held value) ≡ kept_or value (store_answer mode kind hold value)

-- the same columns, modes and types, each with two holds
data Leaves (Alike : Type 0) : List Leaf → List Leaf → Type 0 where
  none : Leaves Alike [] []
  more : (column : ℕ) (mode : StoreMode) (kind : LeafType) (hold held : Hold) (xs ys : List Leaf) → (Alike → KeepAlike mode kind hold held) → Leaves Alike xs ys
      → Leaves Alike (record { column = column; mode = mode; kind = kind; hold = hold } ∷ xs) (record { column = column; mode = mode; kind = kind; hold = held } ∷ ys)

leaves_with : {Alike : Type 0} (mode : StoreMode) (columns : List ℕ) (kinds : List LeafType) (holds held : List Hold) → length holds ≡ length kinds → length held ≡ length kinds
    → (Alike → (leaf : ℕ) → KeepAlike mode (kind_at kinds leaf) (hold_at holds leaf) (hold_at held leaf)) → Leaves Alike (with_columns mode columns kinds holds) (with_columns mode columns kinds held)
leaves_with mode [] kinds holds held many other alike = none
leaves_with mode (column ∷ columns) [] holds held many other alike = none
leaves_with mode (column ∷ columns) (kind ∷ kinds) (hold ∷ holds) (h ∷ hs) many other alike =
    more column mode kind hold h (with_columns mode columns kinds holds) (with_columns mode columns kinds hs) (λ holds_alike. alike holds_alike 0)
    (leaves_with mode columns kinds holds hs (omega arith) (omega arith) (λ holds_alike leaf. alike holds_alike (suc leaf)))
leaves_with mode columns kinds holds held many other alike = absurd (omega arith)

narrow_refusal : (row leaf : ℕ) (e : StoreFault) → is_narrow e ≡ true → is_narrow_row (refusal row leaf e) ≡ true
narrow_refusal row leaf e is = grind arith

-- a place with another hold
abbrev held_by : Place → Hold → Place
held_by place hold = record place { hold = hold }

taken_answers : {Alike : Type 0} (place : Place) (hold : Hold) (x y : Result ℤ StoreFault) → Answers is_narrow Alike x y → Answers is_narrow_row Alike (taken place x) (taken (held_by place hold) y)
taken_answers place hold x y agree =
    mapped (refusal place.row place.leaf) (taken place) (taken (held_by place hold)) (λ e. refl) (λ e. refl) (narrow_refusal place.row place.leaf) (narrow_refusal place.row place.leaf) agree
    (λ a b same. go a b same)

module _ {Alike : Type 0} (place : Place) (hold : Hold) (alike : Alike → KeepAlike place.mode place.kind place.hold hold) where
  abbrev store_in : Place → ℤ → Result ℤ RowFault
  store_in where_to value = taken where_to (store_answer where_to.mode where_to.kind where_to.hold value)

  number_answers : (number : Option ℤ) → Answers is_narrow_row Alike (the_number place number >>= store_in place) (the_number (held_by place hold) number >>= store_in (held_by place hold))
  number_answers None = fails (Number place.row place.leaf)
  number_answers (Some value) =
      taken_answers place hold (store_answer place.mode place.kind place.hold value) (store_answer place.mode place.kind hold value)
      (store_answers place.mode place.kind place.hold hold value (λ holds_alike. alike holds_alike value))

  field_answers : (field : Option (List ℕ))
      → Answers is_narrow_row Alike (the_field place field >>= (λ f. the_number place (number_behind_sign (unspaced f)) >>= store_in place))
      (the_field (held_by place hold) field >>= (λ f. the_number (held_by place hold) (number_behind_sign (unspaced f)) >>= store_in (held_by place hold)))
  field_answers None = fails (ShortRow place.row place.leaf)
  field_answers (Some field) = number_answers (number_behind_sign (unspaced field))

  value_answers : (fields : List (List ℕ)) → Answers is_narrow_row Alike (value_at place fields) (value_at (held_by place hold) fields)
  value_answers fields = field_answers (slice_get fields place.column)

row_answers : {Alike : Type 0} (row : ℕ) (fields : List (List ℕ)) (leaf : ℕ) (xs ys : List Leaf) → Leaves Alike xs ys → Answers is_narrow_row Alike (row_values row fields leaf xs) (row_values row fields leaf ys)
row_answers row fields leaf xs ys none = equal (Ok [])
row_answers row fields leaf xs ys (more column mode kind hold held us vs alike rest) =
    let place : Place = record { row = row; leaf = leaf; column = column; mode = mode; kind = kind; hold = hold } in
    cons_answers (value_at place fields) (value_at (held_by place held) fields) (row_values row fields (leaf + 1) us) (row_values row fields (leaf + 1) vs)
    (value_answers place held alike fields) (row_answers row fields (leaf + 1) us vs rest)

table_answers : {Alike : Type 0} (row : ℕ) (rows : List (List (List ℕ))) (xs ys : List Leaf) → Leaves Alike xs ys → Answers is_narrow_row Alike (table_from row rows xs) (table_from row rows ys)
table_answers row [] xs ys leaves = equal (Ok [])
table_answers row (fields ∷ rows) xs ys leaves =
    cons_answers (row_values row fields 0 xs) (row_values row fields 0 ys) (table_from (row + 1) rows xs) (table_from (row + 1) rows ys)
    (row_answers row fields 0 xs ys leaves) (table_answers (row + 1) rows xs ys leaves)

-- the table of a dataset, where each leaf has a hold
pub dataset_answers : {Alike : Type 0} (mode : StoreMode) (names : List (List ℕ)) (kinds : List LeafType) (holds held : List Hold) (records : List (List (List ℕ)))
    → length holds ≡ length kinds → length held ≡ length kinds → (Alike → (leaf : ℕ) → KeepAlike mode (kind_at kinds leaf) (hold_at holds leaf) (hold_at held leaf))
    → Answers is_narrow_row Alike (dataset_table mode names kinds holds records) (dataset_table mode names kinds held records)
unfolding dataset_table
dataset_answers mode names kinds holds held records many other alike =
    before (columns_of (header_record records) 0 names)
    (λ columns. table_from 0 (records_behind records) (with_columns mode columns kinds holds)) (λ columns. table_from 0 (records_behind records) (with_columns mode columns kinds held))
    (λ columns. table_answers 0 (records_behind records) (with_columns mode columns kinds holds) (with_columns mode columns kinds held) (leaves_with mode columns kinds holds held many other alike))
