-- What the proofs of this crate speak of.
pub use Rattle.blob_file.specs.Imports.{Owner, Pad, owner_at, IsLaidOut, width_at, entry, IsImage, bit_held, image, bit_number, digit_lt, IsIn, is_signed, IsDeclared, Leaf, leaves, kinds_of, record_fault, records_of, records_below, lengths_of, lengths_below, names_of, has_names, is_word, is_name, begins_name, continues_name, Fields, End, Tree, Single, Record, Array, tree_of, IsRecord, schema_fields, PathStep, IsBuiltTerm, holds_by, leaf_cells, accepted, layout_by, term_laws, good_numbers, length-holds, kinds_are, StoreMode, indices, ExtentWord, Two, FieldWidth, Fixed, Rows, extent_of, is_rows, bad_shape, bad_extents, HasRows, bytes_of, Term, term_of, Aos, Soa, Aosoa, BitAos, BitSoa, Split, Byteswap, Bytesplit, Change, Counted, Heated, Named, HasItsFields, LineFault}
unfoldable pub use Rattle.blob_file.specs.Imports.{canonical}
pub use Rattle.record_dim.specs.Std.{◌≡◌, ℕ, ◌+◌, ◌*◌, ◌/◌, ◌%◌, ◌<◌, ◌≤◌, List, [], ◌∷◌, ◌++◌, length, map, get_or, drop, take, All, refl, sym, ap, ◌∙◌, subst, arith, Bool, true, false, zero, suc, ℤ, pos, Result, Ok, Err, is_ok, ◌-◌, Option, Some, None, ⊎_elim, append_assoc, length-append, negsuc, ◌≤ℤ◌, ◌^◌, nat_lt, is_none, inl, inr, IsErr, rules, take_all, to_z, of_z, sum_by, nat_eq, if◌then◌else◌, ◌==◌, option_map, ◌⊎◌, codes, MatchResult, ◌&&◌, count_by, IfOk, IfErr, OnOk, nat_le, int_le, length-map, length-drop, get_or-map, append-nil, drop_all, take_at, drop_at, take-append-drop, length-take-le, drop_more, take_rest, nil_from_length, ext_get_or, length-replicate, get_or_past, get_or_default, Decides, AllPass, list_all, flat_map, range_with_len, enumerate_from, list_any, pointwise, and_parts, and_from, cases_eq, eq-eqb, ne_eqb, cases_lt, le-ltb, false_from_ne_true, not-true, eqb-true, and_left, and_right, leb-true, le-leb, lt-leb, nat_tests, Decides-eqb, Decides-and, Decides-or, Decides-not, Decides-like, Decides-ltb, slice_eq-Decides, bytes_eq-Decides, sum_by-cons, AllPass-from_list_all, list_all-append, pow_mono, ints, to_z_pos, to_z-of_z, flat_map-cons, length-enumerate_from, get_or-enumerate_from, get_or-map-range_with_len, bit_at, w128, take-add, get_or_from_slice_get, not, common_steps}
pub use Rattle.piece_bits.specs.Prelude.{AreSized, HasShape, hold_at, table_in, zeros, table_shape, tables_same, entry_in, bit_in_lt, hold_widths, declared, held, declared_same, kept_declared, kind_at, Stays, fitting_held, fitting_stays, declared_shape, declared_entry, image_raw, image_table, low_64}
pub use Rattle.views.specs.Prelude.{blob_lengths, Access, Write, row_accesses, all_accesses, no_tally, StoreAnswer, store_answer, kept_or, kept_row, kept_rows, Keeping, without_number, stored_fits, fitting_stored, between_true, stays_answer, told_same, column_writes, with_column, raised, AreRowsMoved, CountsNothing, run_steps, run_entry, run_length, AreBefore, raised_low, run_more, no_leaf_moved, leaf_moved, Table, IsTable, answer_of, kept_of, leaf_count_of, leaf_type_of, leaf_types_of, owners_of, table_holds, after_stores, blob_bits_of, after_stores-append, logs_more, after_log-none, IsOverLimits, length-with_column}
pub use Rattle.record_dim.specs.declared.leaf_type.LeafType.{LeafType}
pub use Rattle.places.specs.declared.piece.Hold.{Hold}
pub use Rattle.blobs.specs.Bits.{bit_in, bit_of, bits_of, AreBytes}
pub use Rattle.piece_bits.specs.KeptLaws.{low_same}
pub use Rattle.views.specs.declared.fault.StoreFault.{StoreFault}
pub use Rattle.views.specs.declared.fault.StoreFault.TheVariants.{Range, Narrow}
pub use Rattle.line_tokens.specs.Inner.Ends.{NoEnd}
pub use Rattle.line_tokens.specs.EndLaws.{no_end_append, joined_no_end}
pub use Rattle.line_tokens.specs.Bytes.{is_space_byte, is_word_byte}
pub use Rattle.line_tokens.specs.Next.{next_of}
pub use Rattle.line_tokens.specs.Spelled.{Spells, MayOpen, spaced, spaced_tokens as tokens_joined}
pub use Rattle.line_tokens.specs.SpelledLaws.{IsParted, next_spelled}
pub use Rattle.line_tokens.specs.declared.token.Next.TheVariants.{Token as Found}
pub use Rattle.line_tokens.specs.declared.token.TokenKind.{TokenKind}
pub use Rattle.line_tokens.specs.declared.sign.Sign.{Sign as SignName}
pub use Rattle.line_tokens.specs.declared.sign.Sign.TheVariants.{OpenBrace, CloseBrace, OpenBracket, CloseBracket, CloseParen, Colon, Comma, Arrow}
pub use Rattle.layout_io.specs.Prelude.{joined, Wrote, Stopped, Writes, Gathers, Puts, HasPut, Gathers-written, Puts-append, Puts-stop, Puts-stopped, Writes-puts_err, Writes-puts, Puts-loop_err, Puts-loop_ok, flat_map_push, Wrote-append, Stopped-first, Stopped-second}
pub use Rattle.map_any.specs.AnyLaws.{length-leaf_cells}
pub use Rattle.record_dim.specs.Trees.{Field as More}
pub use Rattle.line_grammar.specs.Prelude.{New, Define, View, sentence_of, Sentence, deepest, Reads, StopsAt, kind_token, leaf_types, orders, aos_forms, soa_forms, map_word, type_word, order_word, aos_word, soa_word}
pub use Rattle.record_dim.specs.declared.dim.Dim.{Dim}
pub use Rattle.line_grammar.specs.declared.line.Line.{Line}
pub use Rattle.line_grammar.specs.declared.version.Version.{Version}
pub use Rattle.line_writer.specs.Texts.{written}
pub use Rattle.line_writer.specs.Canonical.{line_tokens, core_tokens, dims_tokens, fields_tokens, later_tokens, bracket_list, with_commas, extent_tokens, flag_tokens, count_token, path_tokens, step_tokens, form_tokens, bits_tokens, width_tokens, widths_tokens, map_tokens}
pub use Rattle.line_writer.proofs.Gives.{Each, each_append}
pub use Rattle.line_writer.proofs.ReadsBack.{decimal_spells}
pub use Rattle.line_grammar.specs.declared.token.Token.{Token}
pub use Rattle.line_grammar.specs.declared.token.Token.TheVariants.{Word, Number, Sign}
pub use Rattle.line_grammar.specs.declared.line.MapWord.{MapWord}
pub use Rattle.line_grammar.specs.Tokens.{listed}
pub use Rattle.extents.specs.declared.order.Order.{Order}
pub use Rattle.places.specs.declared.forms.AosForm.{AosForm}
pub use Rattle.places.specs.declared.forms.SoaForm.{SoaForm}
pub use Rattle.schema_lang.specs.LineOf.{line_of, IsTold}
pub use Rattle.instrument.specs.BlobTextsLaws.{length-bytes_of, bytes_of_bits}
pub use Rattle.places.specs.declared.piece.Cell.{Cell}
pub use Rattle.map_expr.specs.declared.check.BadMapping.{BadMapping}
pub use Rattle.extents.specs.declared.words.BadExtents.{BadExtents as Bad}
pub use Rattle.line_tokens.specs.SpotLaws.{same_spots}
pub use Rattle.record_dim.specs.declared.leaf_type.LeafType.TheVariants.{Bool as Truth}
pub use Rattle.views.proofs.StoredLaws.{nothing_stored, value_more, HasStored, passed}
pub use Rattle.blob_file.specs.Opened.{cut, raw_in, rows_in, answer_by, are_taken, all_taken, leaf_count, row_count, bytes_to_line_end, with_blobs, with_body, empty_table, table_of_saved, IsRead, same_bytes, fields_told, new_told, with_record, header_told, behind_first, behind_size, is_plain, mode_by, Saved, with_header, canonical_by}
unfoldable pub use Rattle.blob_file.specs.Opened.{are_contents, line_told, header_at, opened}
pub use Rattle.blob_file.specs.Files.{Header, owners_by, image_bytes, AreRows, two_lines, four_bytes, is_wrap, record_line, view_line, record_text, view_text, header_text, IsShort, magic, IsFile}
unfoldable pub use Rattle.blob_file.specs.Files.{file_of}
pub use Rattle.blob_file.specs.Inner.Filling.{kept_run, run_writes, AreFitting, AreTaken, IsTaken, IsTakenLeaf}
pub use Rattle.blob_file.specs.Saving.{header_of, blobs_of, head_of}
pub use Rattle.blob_file.specs.Parts.{fields_in, header_in, header_by}
pub use Rattle.blob_file.specs.Headers.{is_count, is_step, is_width, is_typed, IsTyped, is_nameless, HasLine, HasLines, words_of, CanLie, is_over_limits}
unfoldable pub use Rattle.blob_file.specs.Headers.{can_lie}
pub use Rattle.blob_file.specs.HeaderLaws.{nameless_built}
pub use Rattle.blob_file.specs.declared.header.FileHeader.{FileHeader}
pub use Rattle.blob_file.specs.Statements.{OneFile, OpensFiles}
pub use Rattle.blob_file.specs.declared.fault.FileFault.{FileFault}
pub use Rattle.blob_file.specs.Inner.Refusals.{refusal}
pub use Rattle.blob_file.specs.declared.fault.FileFault.TheVariants.{Contents}
