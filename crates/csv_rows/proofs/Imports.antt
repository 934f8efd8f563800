-- What the proofs of this crate speak of.
pub use Rattle.record_dim.specs.Std.{◌≡◌, ℕ, ◌+◌, ℤ, List, [], sym, ap, ◌∙◌, ◌⊎◌, inl, inr, suc, ◌^◌, ◌-◌, ◌<◌, ◌≤◌, Bool, true, false, ◌&&◌, pos, negsuc, neg_ℤ, ◌<ℤ◌, Result, Ok, Err, Option, Some, None, refl, arith, ⊎_elim, option_map, zero, ◌*◌, nat_eq, ◌∷◌, length, map, subst, ◌++◌, take, get_or, IsErr, drop, append-nil, MatchBool, IfErr, set, add-one, append_assoc, cond, ◌-ℤ◌, FitsSigned, ◌/◌, ◌%◌, reverse, OnOk, rules, is_ok, int_le, if◌then◌else◌, All, ◌||◌, ⊤, not, list_all, list_any, enumerate_from, slice_split, onto_first, range_with_len, ints, to_z-of_z, cases_lt, false_from_ne_true, cases_eq, and_right, and_left, and_from, or_parts, pointwise, length-map, get_or-map, take-append-drop, take_all, drop_all, drop_more, length-take-le, get_or-take, get_or_default, drop-drop, length-drop, drop-take, take-take, at_drop_more, take_more_set, reverse-reverse, reverse-append, length_push, length-set, length-take, drop-set-lt, take_more, get_or-set_same, get_or-set_other, take_rest, get_or-drop, list_all-append, list_all_more, slice_get_within, get_or_from_slice_get, nat_tests, get_or-enumerate_from, length-enumerate_from, All-head, All-tail, All-nil, All-cons, All-drop, All-append, slice_split_none, slice_split_at, is_ascii_digit, digit_value, digits_value, digits_value_after, digits_value_more, digit_value_digit, pow-suc, pow-le-pow_right, decimal, decimal_injective, decimal_by_steps_wide, w128, AllPass-from_list_all, common_steps}
pub use Rattle.std.proofs.Common.{flat_map, Bor}
pub use Rattle.std.specs.List.{slice_get}
pub use Rattle.std.specs.Option.{unwrap_or}
pub use Rattle.csv.specs.Machine.{Read, step, is_end, ends_at_end, fields_after, field_after, start_field}
unfoldable pub use Rattle.csv.specs.Machine.{next_record}
pub use Rattle.views.specs.Prelude.{Write, Tally, row_accesses, all_accesses, tallied-none, after_log-append, after_stores-append, logs_more, after_log-none, Table, owners_of, leaf_count_of, after_log, after_stores, leaf_types_of, table_holds, kept_of, IsTable, answer_of, store_answer, Keeping, kept_row, kind_at, AllStay, Stays, stays_answer, told_kept, told_err}
pub use Rattle.record_dim.specs.declared.leaf_type.LeafType.{LeafType}
pub use Rattle.record_dim.specs.declared.leaf_type.LeafType.TheVariants.{Bool as Truth}
pub use Rattle.record_dim.specs.Prelude.{least_of, greatest_of, IsDeclared, Tree, Single, Record, Array, Fields, End, Field, leaves_of, leaves, paths_of, texts_of, names_of, has_names, has_twice, records_below, record_fault, is_name, begins_name, continues_name, both, same_text, text_self, BeginsWithName, path_text_of, step_text, schema_fields, records_of}
pub use Rattle.places.specs.declared.piece.Hold.{Hold}
pub use Rattle.piece_bits.specs.declared.mode.StoreMode.{StoreMode}
pub use Rattle.piece_bits.specs.declared.mode.StoreMode.TheVariants.{Strict, Wrap}
pub use Rattle.views.specs.declared.fault.StoreFault.TheVariants.{Range}
pub use Rattle.piece_bits.specs.Prelude.{folded, shortened, folded_near, folded_far, shortened_kept, fold_next, hold_at, stays_declared}
pub use Rattle.record_dim.specs.declared.path.PathStep.{PathStep}
pub use Rattle.record_dim.specs.declared.path.PathStep.TheVariants.{Name, At}
pub use Rattle.record_dim.proofs.Apart.{paths_at, IsApart, InEither, in_either, in_map, paths_field, in_field, InElement, in_element, apart_tree}
pub use Rattle.record_dim.proofs.Fit.{fit_from, fit_few}
pub use Rattle.record_dim.proofs.Walks.{length-leaves, length-leaves_of_array}
pub use Rattle.layout_io.specs.Prelude.{decimal_text, digits_text, Puts, HasPut, Puts-append, Puts-stopped, Puts-loop_err, Puts-loop_ok, Puts-stop, Writes-puts_err, flat_map_push, decimal-digits_text}
pub use Rattle.memchr.specs.Find.{IsFirstByte, is_byte, is_byte3, is_byte2}
pub use Rattle.csv.specs.Reading.{default_config, records_next, source_of, ReadRecord, is_bom}
unfoldable pub use Rattle.csv.specs.Reading.{records_from, Reached, strip_bom}
pub use Rattle.csv.specs.declared.parser.State.{State}
pub use Rattle.csv.specs.declared.parser.Action.{Action}
pub use Rattle.csv.specs.Records.{fields_of}
unfoldable pub use Rattle.csv.specs.Records.{field_at}
pub use Rattle.csv.specs.declared.parser.Config.{Config}
pub use Rattle.csv.specs.declared.reader.Reader.{Reader}
pub use Rattle.csv.proofs.ReadFacts.{rows-more, rows-end}
pub use Rattle.places.specs.Prelude.{hold_of, full_holds, narrow_holds, width_narrow}
pub use Rattle.places.specs.declared.piece.Cell.{Cell}
pub use Rattle.map_expr.specs.Terms.{Term, BitAos, BitSoa, Split, Change, Count, Heat}
pub use Rattle.map_bytes.specs.Cells.{changed}
pub use Rattle.map_split.specs.Sides.{merged}
pub use Rattle.map_checks.specs.Prelude.{side_of, cells_under, cells_beside, leaf_cells, holds_of, cell_widths}
pub use Rattle.views.specs.declared.fault.StoreFault.{StoreFault}
pub use Rattle.extents.specs.Indices.{indices}
pub use Rattle.csv_rows.specs.Inner.Readers.{IsAsked, record_count, field_state, quote_state, known, text_left, rows_from, rows_left, IsReading, text_behind}
pub use Rattle.csv_rows.specs.Datasets.{◌>>=◌, Place, unspaced, number_behind_sign, the_field, the_number, taken, value_at, Leaf, csv_records, row_values, table_from, with_columns, columns_named, one_column, columns_of, header_record, records_behind, all_digits, digits_number, is_blank, behind_blanks, before_blanks, refusal}
unfoldable pub use Rattle.csv_rows.specs.Datasets.{dataset_table}
pub use Rattle.csv_rows.specs.declared.fault.RowFault.{RowFault}
pub use Rattle.csv_rows.specs.Texts.{with_comma, comma_line, comma_joined}
unfoldable pub use Rattle.csv_rows.specs.Texts.{print_text}
pub use Rattle.csv_rows.specs.Inner.Unquoted.{is_comma, opens_behind, HasNoQuote, IsPlain, IsFirstField, IsField, is_line_end, line_length, first_line, behind_line, IsFieldHere, line_start, IsAt}
pub use Rattle.csv_rows.specs.Loads.{dataset_of, IsNoRefusal, place_of, leaves_in, IsFront, Keeps, IsRowsFront, KeepsRows}
pub use Rattle.csv_rows.specs.declared.fault.RowFault.TheVariants.{MissingColumn, ColumnTwice, NoMemory, ShortRow, Number, Narrow}
