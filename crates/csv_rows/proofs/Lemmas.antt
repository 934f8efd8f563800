-- The lemmas of this crate that answers cite.
pub use Rattle.csv_rows.proofs.Imports.{rules, arith, ◌≡◌, ◌∙◌, None, true, false, length, sym, ap, ◌<◌, [], ◌∷◌, ◌++◌, get_or, Ok, length-map, length_push, get_or_from_slice_get, enumerate_from, schema_fields, texts_of, columns_named, one_column, common_steps, drop, columns_of, IsAsked, ◌+◌, subst, length-drop, get_or-drop, is_comma, first_line, IsField, nat_tests, line_start, HasNoQuote, text_behind, ◌⊎◌, List, ℕ, ℤ, Result, OnOk, IfErr, RowFault, NoMemory, inr, Err, header_record, MissingColumn, refl, kept_row, kept_of, is_ascii_digit, ◌-◌, ◌*◌, take, digits_value, folded, fold_next, neg_ℤ, to_z-of_z, take_rest, IsFieldHere, option_map, IsErr, Puts-stop, Puts-append, ◌≤◌, pos, map, decimal_text, get_or-map, indices, Puts-loop_err, comma_line, ⊎_elim, is_ok, FitsSigned, w128, cases_eq, length-set, get_or-set_same, get_or-set_other, answer_of, value_at, place_of, row_values, leaves_in, Option, Some, slice_get, told_kept, told_err, taken}
pub use Rattle.csv_rows.proofs.Asked.{asked_again}
pub use Rattle.csv_rows.proofs.Headers.{named_here, no_column, step_at, columns_end, leaf_more, leaf_refused}
pub use Rattle.csv_rows.proofs.Sequences.{behind}
pub use Rattle.csv_rows.proofs.FirstLines.{here_behind, here_end, here_last}
pub use Rattle.csv_rows.proofs.PlainLines.{record_rows, line_record, left_plain, start_plain}
pub use Rattle.csv_rows.proofs.Tables.{header_refused, no_header, known_columns, dataset_keeps, Loading, next_left, row_loaded, row_refused}
pub use Rattle.csv_rows.proofs.Accesses.{after_stores-none, row_was_read}
pub use Rattle.csv_rows.proofs.Numbers.{one_digit, power_next, low_power}
pub use Rattle.csv_rows.proofs.PlainNumbers.{plain_read, minus_field, minus_read, given_fits, minus_number}
pub use Rattle.csv_rows.proofs.Commas.{comma_behind, commas_more, commas_err, commas_line, part_more}
pub use Rattle.csv_rows.proofs.Clips.{number_in, value_some}
pub use Rattle.csv_rows.proofs.HoldWidths.{leaf_few}
