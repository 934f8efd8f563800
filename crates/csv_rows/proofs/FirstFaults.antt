-- The first fault of a dataset: what holds of each that a value or a name may have holds of it.
use Rattle.csv_rows.proofs.Imports.{◌≡◌, ◌⊎◌, ℕ, ◌+◌, ℤ, List, [], ◌∷◌, Option, Result, Ok, Err, IfErr, refl, ap, ◌∙◌, slice_get, enumerate_from, LeafType, Hold, StoreMode, Wrap, store_answer, Table, ◌>>=◌, Place, unspaced, number_behind_sign, the_field, the_number, taken, value_at, row_values, table_from, with_columns, columns_named, one_column, columns_of, header_record, records_behind, dataset_table, dataset_of, IsNoRefusal, RowFault, MissingColumn, ColumnTwice, NoMemory, arith}

abbrev err_or : {A : Type 0} → RowFault → Result A RowFault → RowFault
err_or d (Ok x) = d
err_or d (Err fault) = fault

pub err_is : {A : Type 0} {x y : RowFault} → ◌≡◌ {A = Result A RowFault} (Err x) (Err y) → x ≡ y
err_is {x = x} is = ap (err_or x) is

rest_err : {X : Type 0} (x : X) (read : Result (List X) RowFault) (f : RowFault) → (read >>= (λ more. Ok (x ∷ more))) ≡ Err f → read ≡ Err f
rest_err x read f is = grind (arith, err_is)

-- the fault of what is read first, or of the others
first_fault : {X : Type 0} (P : RowFault → Type 0) (first : Result X RowFault) (others : Result (List X) RowFault) (f : RowFault) → (first ≡ Err f → P f) → (others ≡ Err f → P f)
    → (first >>= (λ x. others >>= (λ xs. Ok (x ∷ xs)))) ≡ Err f → P f
first_fault P (Ok x) others f one more is = more (rest_err x others f is)
first_fault P (Err fault) others f one more is = one (ap Err (err_is is))

abbrev pub place_in : StoreMode → ℕ → ℕ → ℕ → LeafType → Hold → Place
place_in mode row leaf column kind hold = record { row = row; leaf = leaf; column = column; mode = mode; kind = kind; hold = hold }

-- the fault of a row, from a leaf on
pub of_row : (P : RowFault → Type 0) (mode : StoreMode) (row : ℕ) (fields : List (List ℕ))
    → ((leaf column : ℕ) (kind : LeafType) (hold : Hold) (f : RowFault) → value_at (place_in mode row leaf column kind hold) fields ≡ Err f → P f)
    → (leaf : ℕ) (columns : List ℕ) (kinds : List LeafType) (holds : List Hold) (f : RowFault) → row_values row fields leaf (with_columns mode columns kinds holds) ≡ Err f → P f
of_row P mode row fields each leaf (column ∷ columns) (kind ∷ kinds) (hold ∷ holds) f is =
    first_fault P (value_at (place_in mode row leaf column kind hold) fields) (row_values row fields (leaf + 1) (with_columns mode columns kinds holds)) f
    (each leaf column kind hold f) (of_row P mode row fields each (leaf + 1) columns kinds holds f) is
of_row P mode row fields each leaf columns kinds holds f is = absurd (cc is)

-- of rows
of_rows : (P : RowFault → Type 0) (mode : StoreMode)
    → ((row : ℕ) (fields : List (List ℕ)) (leaf column : ℕ) (kind : LeafType) (hold : Hold) (f : RowFault) → value_at (place_in mode row leaf column kind hold) fields ≡ Err f → P f)
    → (columns : List ℕ) (kinds : List LeafType) (holds : List Hold) (row : ℕ) (rows : List (List (List ℕ))) (f : RowFault) → table_from row rows (with_columns mode columns kinds holds) ≡ Err f → P f
of_rows P mode each columns kinds holds row [] f is = absurd (cc is)
of_rows P mode each columns kinds holds row (fields ∷ rows) f is =
    first_fault P (row_values row fields 0 (with_columns mode columns kinds holds)) (table_from (row + 1) rows (with_columns mode columns kinds holds)) f
    (of_row P mode row fields (each row fields) 0 columns kinds holds f) (of_rows P mode each columns kinds holds (row + 1) rows f) is

-- of a header that does not name each leaf once
of_column : (P : RowFault → Type 0) → ((leaf : ℕ) → P (MissingColumn leaf)) → ((leaf : ℕ) → P (ColumnTwice leaf)) → (leaf : ℕ) (columns : List ℕ) (f : RowFault) → one_column leaf columns ≡ Err f → P f
of_column P missing twice leaf columns f is = grind (arith, err_is)

pub of_header : (P : RowFault → Type 0) → ((leaf : ℕ) → P (MissingColumn leaf)) → ((leaf : ℕ) → P (ColumnTwice leaf))
    → (header : List (List ℕ)) (leaf : ℕ) (names : List (List ℕ)) (f : RowFault) → columns_of header leaf names ≡ Err f → P f
of_header P missing twice header leaf [] f is = absurd (cc is)
of_header P missing twice header leaf (name ∷ names) f is =
    first_fault P (one_column leaf (columns_named name (enumerate_from 0 header))) (columns_of header (leaf + 1) names) f
    (of_column P missing twice leaf (columns_named name (enumerate_from 0 header)) f) (of_header P missing twice header (leaf + 1) names f) is

-- a view that keeps low bits refuses no number
number_taken : (place : Place) (number : Option ℤ) (f : RowFault) → (the_number place number >>= (λ value. taken place (store_answer Wrap place.kind place.hold value))) ≡ Err f → IsNoRefusal f
number_taken place number f is = grind (arith, err_is)

field_taken : (place : Place) (field : Option (List ℕ)) (f : RowFault)
    → (the_field place field >>= (λ text. the_number place (number_behind_sign (unspaced text)) >>= (λ value. taken place (store_answer Wrap place.kind place.hold value)))) ≡ Err f → IsNoRefusal f
field_taken place field f is = grind (arith, err_is, number_taken)

dataset_taken : (names : List (List ℕ)) (kinds : List LeafType) (holds : List Hold) (records : List (List (List ℕ))) (f : RowFault) → dataset_table Wrap names kinds holds records ≡ Err f → IsNoRefusal f
unfolding dataset_table
dataset_taken names kinds holds records f is = first (columns_of (header_record records) 0 names) refl is
  where
    first : (found : Result (List ℕ) RowFault) → columns_of (header_record records) 0 names ≡ found
        → (found >>= (λ columns. table_from 0 (records_behind records) (with_columns Wrap columns kinds holds))) ≡ Err f → IsNoRefusal f
    first (Ok columns) found e =
        of_rows IsNoRefusal Wrap (λ row fields leaf column kind hold. field_taken (place_in Wrap row leaf column kind hold) (slice_get fields column)) columns kinds holds 0 (records_behind records) f e
    first (Err g) found e = of_header IsNoRefusal (λ leaf. tt) (λ leaf. tt) (header_record records) 0 names f (found ∙ ap Err (err_is e))

pub load_taken : (table : Table) (records : List (List (List ℕ))) (result : Result Unit RowFault) → IfErr result (λ f. (f ≡ NoMemory) ⊎ (dataset_of table records ≡ Err f))
    → IfErr result (λ f. table.mode ≡ Wrap → IsNoRefusal f)
load_taken table records result h = grind (arith, dataset_taken)
