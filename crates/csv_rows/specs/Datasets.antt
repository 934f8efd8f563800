-- Datasets: the table that a list of bytes holds for some leaves, or the first fault.
use Rattle.std.specs.Prelude.{ℕ, ℤ, pos, neg_ℤ, ◌+◌, ◌==◌, ◌||◌, nat_eq, Bool, List, [], ◌∷◌, drop, reverse, Option, Some, None, option_map, if◌then◌else◌, Result, Ok, Err}
use Rattle.record_dim.specs.Std.{list_all, enumerate_from, is_ascii_digit, digits_value, pointwise}
use Rattle.std.specs.List.{slice_get}
use Rattle.csv.specs.Reading.{records, default_config, strip_bom}
use Rattle.record_dim.specs.declared.leaf_type.LeafType.{LeafType}
use Rattle.places.specs.declared.piece.Hold.{Hold}
use Rattle.piece_bits.specs.declared.mode.StoreMode.{StoreMode}
use Rattle.views.specs.Prelude.{store_answer}
use Rattle.views.specs.declared.fault.StoreFault.{StoreFault}
use Rattle.views.specs.declared.fault.StoreFault.TheVariants as store
use Rattle.csv_rows.specs.declared.fault.RowFault.{RowFault}
use Rattle.csv_rows.specs.declared.fault.RowFault.TheVariants.{MissingColumn, ColumnTwice, ShortRow, Number, Range, Narrow}

infixl 10 ◌>>=◌
abbrev pub ◌>>=◌ : {A B : Type 0} → Result A RowFault → (A → Result B RowFault) → Result B RowFault
(Ok x) >>= next = next x
(Err fault) >>= next = Err fault

-- the records of a dataset: `csv` drops a byte order mark of its own, behind the one that is dropped here
abbrev pub csv_records : List ℕ → List (List (List ℕ))
csv_records bytes = records default_config (strip_bom (strip_bom bytes))

-- the first record is the header, and the others are the rows
abbrev pub header_record : List (List (List ℕ)) → List (List ℕ)
header_record [] = []
header_record (header ∷ rows) = header

abbrev pub records_behind : List (List (List ℕ)) → List (List (List ℕ))
records_behind records = drop 1 records

-- without spaces and tabs at the ends
abbrev pub is_blank : ℕ → Bool
is_blank byte = byte == 32 || byte == 9

abbrev pub behind_blanks : List ℕ → List ℕ
behind_blanks [] = []
behind_blanks (byte ∷ bytes) = if is_blank byte then behind_blanks bytes else byte ∷ bytes

abbrev pub before_blanks : List ℕ → List ℕ
before_blanks bytes = reverse (behind_blanks (reverse bytes))

abbrev pub unspaced : List ℕ → List ℕ
unspaced field = before_blanks (behind_blanks field)

-- the numbers of the columns whose field is this name
abbrev pub columns_named : List ℕ → List (ℕ × List ℕ) → List ℕ
columns_named name [] = []
columns_named name (field ∷ fields) =
    if pointwise nat_eq (unspaced field.1) name then field.0 ∷ columns_named name fields else columns_named name fields

-- the one column of a leaf
abbrev pub one_column : ℕ → List ℕ → Result ℕ RowFault
one_column leaf [] = Err (MissingColumn leaf)
one_column leaf (column ∷ []) = Ok column
one_column leaf (column ∷ other ∷ columns) = Err (ColumnTwice leaf)

-- the columns of the leaves of these names, the first of which has this number
abbrev pub columns_of : List (List ℕ) → ℕ → List (List ℕ) → Result (List ℕ) RowFault
columns_of header leaf [] = Ok []
columns_of header leaf (name ∷ names) = do
  column ← one_column leaf (columns_named name (enumerate_from 0 header))
  columns ← columns_of header (leaf + 1) names
  Ok (column ∷ columns)

-- digits, as a number of any length
abbrev pub all_digits : List ℕ → Option ℕ
all_digits digits = if list_all is_ascii_digit digits then Some (digits_value 10 digits) else None

-- the same of one or more digits
abbrev pub digits_number : List ℕ → Option ℕ
digits_number [] = None
digits_number (digit ∷ digits) = all_digits (digit ∷ digits)

-- the same behind an optional sign
abbrev pub number_behind_sign : List ℕ → Option ℤ
number_behind_sign [] = None
number_behind_sign (byte ∷ bytes) =
    if byte == 43 then option_map pos (digits_number bytes)
    else (if byte == 45 then option_map (λ n. neg_ℤ (pos n)) (digits_number bytes) else option_map pos (digits_number (byte ∷ bytes)))

-- where a value is looked for: the row and the leaf by their numbers, the leaf's column, the mode of the view, the leaf's type and hold
pub record Place : Type 0 where
  pub row : ℕ
  pub leaf : ℕ
  pub column : ℕ
  pub mode : StoreMode
  pub kind : LeafType
  pub hold : Hold

abbrev pub the_field : Place → Option (List ℕ) → Result (List ℕ) RowFault
the_field place None = Err (ShortRow place.row place.leaf)
the_field place (Some field) = Ok field

abbrev pub the_number : Place → Option ℤ → Result ℤ RowFault
the_number place None = Err (Number place.row place.leaf)
the_number place (Some value) = Ok value

-- what a refused store is called
abbrev pub refusal : ℕ → ℕ → StoreFault → RowFault
refusal row leaf store.Range = Range row leaf
refusal row leaf store.Narrow = Narrow row leaf

-- the number that an answer keeps
abbrev pub taken : Place → Result ℤ StoreFault → Result ℤ RowFault
taken place (Ok kept) = Ok kept
taken place (Err fault) = Err (refusal place.row place.leaf fault)

-- the number at a place of a row's fields, as it is kept
abbrev pub value_at : Place → List (List ℕ) → Result ℤ RowFault
value_at place fields = do
  field ← the_field place (slice_get fields place.column)
  value ← the_number place (number_behind_sign (unspaced field))
  taken place (store_answer place.mode place.kind place.hold value)

-- the leaves from the one of this number on: the column of each, the mode of the view, the type and the hold
pub record Leaf : Type 0 where
  pub column : ℕ
  pub mode : StoreMode
  pub kind : LeafType
  pub hold : Hold

abbrev pub row_values : ℕ → List (List ℕ) → ℕ → List Leaf → Result (List ℤ) RowFault
row_values row fields leaf [] = Ok []
row_values row fields leaf (here ∷ leaves) = do
  value ← value_at (record { row = row; leaf = leaf; column = here.column; mode = here.mode; kind = here.kind; hold = here.hold }) fields
  values ← row_values row fields (leaf + 1) leaves
  Ok (value ∷ values)

-- the values of the rows, the first of which has this number
abbrev pub table_from : ℕ → List (List (List ℕ)) → List Leaf → Result (List (List ℤ)) RowFault
table_from row [] leaves = Ok []
table_from row (fields ∷ rows) leaves = do
  values ← row_values row fields 0 leaves
  rest ← table_from (row + 1) rows leaves
  Ok (values ∷ rest)

-- each leaf of a view of this mode with its column
abbrev pub with_columns : StoreMode → List ℕ → List LeafType → List Hold → List Leaf
with_columns mode (column ∷ columns) (kind ∷ kinds) (hold ∷ holds) =
    record { column = column; mode = mode; kind = kind; hold = hold } ∷ with_columns mode columns kinds holds
with_columns _ _ _ _ = []

-- the table of a dataset for a view of this mode and leaves of these names, types and holds
unfoldable pub dataset_table : StoreMode → List (List ℕ) → List LeafType → List Hold → List (List (List ℕ)) → Result (List (List ℤ)) RowFault
dataset_table mode names kinds holds records = do
  columns ← columns_of (header_record records) 0 names
  table_from 0 (records_behind records) (with_columns mode columns kinds holds)
