-- The rows that a dataset leaves in a table.
use Rattle.saved_runs.proofs.Imports.{◌≡◌, ℕ, zero, suc, ◌+◌, ◌<◌, ◌≤◌, ℤ, pos, List, [], ◌∷◌, length, get_or, Result, Ok, refl, sym, ap, ◌∙◌, subst, arith, slice_get, enumerate_from, length-map, indices, LeafType, Leaf, leaves, kinds_of, texts_of, path_text_of, Hold, holds_by, leaf_cells, length-holds, length-leaf_cells, hold_at, kind_at, Stays, StoreMode, answer_stays, store_answer, StoreFault, Place, records_behind, one_column, columns_named, columns_of, unspaced, number_behind_sign, the_field, the_number, taken, value_at, row_values, table_from, with_columns, dataset_table, RowFault, Each, Header, AreRows}
use Rattle.csv_rows.specs.Datasets.{◌>>=◌, header_record}
use Rattle.saved_runs.proofs.Rows.{IsRow, are_rows}
use Rattle.saved_runs.proofs.Went.{Went}

-- an answer that is given was given at each of its steps
ran : {A B : Type 0} (x : Result A RowFault) (f : A → Result B RowFault) (b : B) → (x >>= f) ≡ Ok b → Went x f b
ran x f b is = grind arith

abbrev given : {A : Type 0} → A → Result A RowFault
given x = Ok x

same_answers : {A : Type 0} (x y : A) → given x ≡ given y → x ≡ y
same_answers x y is = cc

was_taken : (place : Place) (answer : Result ℤ StoreFault) (value : ℤ) → taken place answer ≡ Ok value → answer ≡ Ok value
was_taken place answer value is = grind arith

-- a value that is kept stays
value_stays : (place : Place) (fields : List (List ℕ)) (value : ℤ) → 1 ≤ place.hold.width → value_at place fields ≡ Ok value → Stays place.mode place.kind place.hold value
value_stays place fields value some is =
    let a = ran (the_field place (slice_get fields place.column)) _ value is in
    let b = ran (the_number place (number_behind_sign (unspaced a.thing))) _ value a.next in
    answer_stays place.mode place.kind place.hold b.thing value some (was_taken place (store_answer place.mode place.kind place.hold b.thing) value b.next)

-- a number for each leaf, and each one that stays
record IsLoaded (mode : StoreMode) (kinds : List LeafType) (holds : List Hold) (values : List ℤ) : Type 0 where
  long : length values ≡ length kinds
  stays : (leaf : ℕ) → leaf < length kinds → Stays mode (kind_at kinds leaf) (hold_at holds leaf) (get_or values leaf (pos 0))

loaded_more : (mode : StoreMode) (kind : LeafType) (kinds : List LeafType) (hold : Hold) (holds : List Hold) (value : ℤ) (values : List ℤ) → Stays mode kind hold value → IsLoaded mode kinds holds values
    → IsLoaded mode (kind ∷ kinds) (hold ∷ holds) (value ∷ values)
loaded_more mode kind kinds hold holds value values here later = record { long = ap suc later.long; stays = λ leaf l. at leaf l }
  where
    at : (leaf : ℕ) → leaf < length (kind ∷ kinds) → Stays mode (kind_at (kind ∷ kinds) leaf) (hold_at (hold ∷ holds) leaf) (get_or (value ∷ values) leaf (pos 0))
    at zero l = here
    at (suc leaf) l = later.stays leaf (omega (arith, l))

row_loaded : (mode : StoreMode) (row : ℕ) (fields : List (List ℕ)) (leaf : ℕ) (columns : List ℕ) (kinds : List LeafType) (holds : List Hold) (values : List ℤ)
    → length columns ≡ length kinds → length holds ≡ length kinds → ((k : ℕ) → k < length kinds → 1 ≤ (hold_at holds k).width)
    → row_values row fields leaf (with_columns mode columns kinds holds) ≡ Ok values → IsLoaded mode kinds holds values
row_loaded mode row fields leaf [] [] holds values few many wide is = grind (arith, same_answers)
row_loaded mode row fields leaf (column ∷ columns) (kind ∷ kinds) (hold ∷ holds) values few many wide is =
    let place : Place = record { row = row; leaf = leaf; column = column; mode = mode; kind = kind; hold = hold } in
    let a = ran (value_at place fields) _ values is in
    let b = ran (row_values row fields (leaf + 1) (with_columns mode columns kinds holds)) _ values a.next in
    let later = row_loaded mode row fields (leaf + 1) columns kinds holds b.thing (omega (arith, few)) (omega (arith, many)) (λ k l. wide (suc k) (omega (arith, l))) b.first in
    subst (IsLoaded mode (kind ∷ kinds) (hold ∷ holds)) (same_answers (a.thing ∷ b.thing) values b.next)
    (loaded_more mode kind kinds hold holds a.thing b.thing (value_stays place fields a.thing (wide 0 (omega arith)) a.first) later)
row_loaded mode row fields leaf columns kinds holds values few many wide is = absurd (omega (arith, few, many))

-- as many columns as names
columns_long : (fields : List (List ℕ)) (leaf : ℕ) (names : List (List ℕ)) (columns : List ℕ) → columns_of fields leaf names ≡ Ok columns → length columns ≡ length names
columns_long fields leaf [] columns is = ap (length {A = ℕ}) (sym (same_answers [] columns is))
columns_long fields leaf (name ∷ names) columns is =
    let a = ran (one_column leaf (columns_named name (enumerate_from 0 fields))) _ columns is in
    let b = ran (columns_of fields (leaf + 1) names) _ columns a.next in
    ap (length {A = ℕ}) (sym (same_answers (a.thing ∷ b.thing) columns b.next)) ∙ ap suc (columns_long fields (leaf + 1) names b.thing b.first)

module _ (header : Header) (wide : (leaf : ℕ) → leaf < length (kinds_of header.fields) → 1 ≤ (hold_at (holds_by header.mapping header.fields) leaf).width) where
  kinds_long : length (kinds_of header.fields) ≡ length (leaves header.fields)
  kinds_long = length-map (leaves header.fields) (λ (leaf : Leaf). leaf.kind)

  holds_long : length (holds_by header.mapping header.fields) ≡ length (kinds_of header.fields)
  holds_long = length-holds header.mapping header.fields (leaf_cells (kinds_of header.fields)) ∙ length-leaf_cells (kinds_of header.fields)

  rows_loaded : (columns : List ℕ) → length columns ≡ length (kinds_of header.fields) → (row : ℕ) (rows : List (List (List ℕ))) (table : List (List ℤ))
      → table_from row rows (with_columns header.mode columns (kinds_of header.fields) (holds_by header.mapping header.fields)) ≡ Ok table → (length table ≡ length rows) × Each (IsRow header) table
  rows_loaded columns few row [] table is = subst (λ (t : List (List ℤ)). (length t ≡ 0) × Each (IsRow header) t) (same_answers [] table is) (refl, tt)
  rows_loaded columns few row (fields ∷ rows) table is =
      let a = ran (row_values row fields 0 (with_columns header.mode columns (kinds_of header.fields) (holds_by header.mapping header.fields))) _ table is in
      let b = ran (table_from (row + 1) rows (with_columns header.mode columns (kinds_of header.fields) (holds_by header.mapping header.fields))) _ table a.next in
      let here = row_loaded header.mode row fields 0 columns (kinds_of header.fields) (holds_by header.mapping header.fields) a.thing few holds_long wide a.first in
      let later = rows_loaded columns few (row + 1) rows b.thing b.first in grind (arith, same_answers, kinds_long)

  -- the table of a dataset with a row for each index
  pub dataset_stays : (records : List (List (List ℕ))) (table : List (List ℤ)) → length (records_behind records) ≡ length (indices header.extents)
      → dataset_table header.mode (texts_of header.fields) (kinds_of header.fields) (holds_by header.mapping header.fields) records ≡ Ok table → AreRows header table
  unfolding dataset_table
  dataset_stays records table many is =
      let a = ran (columns_of (header_record records) 0 (texts_of header.fields)) _ table is in
      let few : length a.thing ≡ length (kinds_of header.fields) =
      columns_long (header_record records) 0 (texts_of header.fields) a.thing a.first ∙ length-map (leaves header.fields) (λ (leaf : Leaf). path_text_of leaf.path) ∙ sym kinds_long in
      let all = rows_loaded a.thing few 0 (records_behind records) table a.next in
      are_rows header table (all.0 ∙ many) all.1
