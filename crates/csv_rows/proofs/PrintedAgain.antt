-- What is printed of a table is the dataset of the same table.
use Rattle.csv_rows.proofs.Imports.{◌≡◌, ℕ, ◌<◌, true, List, [], ◌∷◌, length, get_or, map, ℤ, Result, Ok, refl, ap, ◌∙◌, arith, list_all, range_with_len, LeafType, Hold, length-map, leaves, texts_of, Table, IsTable, leaf_types_of, table_holds, StoreMode, AllStay, dataset_of, decimal_text, ◌>>=◌, csv_records, with_columns, table_from, dataset_table, print_text, RowFault, and_from}
use Rattle.csv_rows.proofs.PlainTexts.{AreColumnNames, is_plain_text}
use Rattle.csv_rows.proofs.PrintedLines.{is_plain_row, rows_read, print_rows_text}
use Rattle.csv_rows.proofs.PrintedColumns.{own_columns}
use Rattle.csv_rows.proofs.PrintedRows.{StayTable, stay_row, stay_table, table_read, plain_table}

header_plain : (names : List (List ℕ)) → 0 < length names → list_all is_plain_text names ≡ true → is_plain_row names ≡ true
header_plain names some plain = grind arith

rows_are_plain : (mode : StoreMode) (kinds : List LeafType) (holds : List Hold) (table : List (List ℤ)) → 0 < length kinds → StayTable mode kinds holds table → list_all is_plain_row (map (map decimal_text) table) ≡ true
rows_are_plain mode [] holds table some stay = absurd (omega arith)
rows_are_plain mode (kind ∷ kinds) holds table some stay = plain_table mode kind kinds holds table stay

read_again : (mode : StoreMode) (names : List (List ℕ)) (kinds : List LeafType) (holds : List Hold) (table : List (List ℤ)) → AreColumnNames names → length names ≡ length kinds → 0 < length kinds → StayTable mode kinds holds table → dataset_table mode names kinds holds (csv_records (print_text names table)) ≡ Ok table
unfolding dataset_table
read_again mode names kinds holds table are count some stay =
    let rows = map (map decimal_text) table in
    let plain : list_all is_plain_row (names ∷ rows) ≡ true = and_from (is_plain_row names) (list_all is_plain_row rows) (header_plain names (omega arith) are.plain) (rows_are_plain mode kinds holds table some stay) in
    let records : csv_records (print_text names table) ≡ names ∷ rows = ap csv_records (print_rows_text names table) ∙ rows_read (names ∷ rows) plain in
    ap (dataset_table mode names kinds holds) records
    ∙ ap (λ (found : Result (List ℕ) RowFault). found >>= (λ columns. table_from 0 rows (with_columns mode columns kinds holds))) (own_columns [] names 0 refl are.plain are.once)
    ∙ ap (λ (n : ℕ). table_from 0 rows (with_columns mode (range_with_len 0 n) kinds holds)) count
    ∙ table_read mode 0 kinds holds table stay

pub printed_again : (mode : StoreMode) (names : List (List ℕ)) (kinds : List LeafType) (holds : List Hold) (table : List (List ℤ)) → AreColumnNames names → length names ≡ length kinds → 0 < length kinds → length holds ≡ length kinds → ((row : ℕ) → row < length table → length (get_or table row []) ≡ length kinds) → AllStay mode (length table) kinds holds table → dataset_table mode names kinds holds (csv_records (print_text names table)) ≡ Ok table
printed_again mode names kinds holds table are count some paired long stays = grind (arith, read_again, stay_table, stay_row)

-- the same of views
pub view_again : (printed loaded : Table) → loaded.fields ≡ printed.fields → AreColumnNames (texts_of printed.fields) → IsTable printed → 0 < length (leaves printed.fields) → length (table_holds loaded) ≡ length (leaf_types_of loaded) → AllStay loaded.mode (length printed.rows) (leaf_types_of loaded) (table_holds loaded) printed.rows → dataset_of loaded (csv_records (print_text (texts_of printed.fields) printed.rows)) ≡ Ok printed.rows
view_again printed loaded same names table some paired stays = grind (arith, leaves, length-map, printed_again)
