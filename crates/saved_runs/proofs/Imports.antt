-- What the proofs of this crate speak of.
pub use Rattle.record_dim.specs.Std.{◌≡◌, ℕ, zero, suc, ◌+◌, ◌<◌, ◌≤◌, Bool, true, false, ℤ, List, [], ◌∷◌, ◌++◌, length, map, get_or, Option, Some, None, Result, Ok, Err, is_ok, if◌then◌else◌, refl, sym, ap, ◌∙◌, subst, arith, append-nil, ◌⊎◌, ◌*◌, ◌/◌, ◌%◌, ◌^◌, not, ◌&&◌, nat_lt, inl, inr, ⊎_elim, codes, append_assoc, ◌-◌, pos, max, length-append, set, get_or-set_other, get_or-set_same, range_with_len, list_any, enumerate_from, option_or, option_map_or, length-map, drop_all, take-length, ◌||◌, ◌==◌, count_by, unwrap_or, is_some, sum_by, MatchResult, IfSome, le-ltb, ltb-false, lt-ltb, ltb-true, lt-leb, cases_eq, and_from, and_parts, or_parts, not-true, nat_tests, mul-le-mul_left, le-max_left, le-max_right, sum_by-cons, pow_pos, length-enumerate_from}
pub use Rattle.std.specs.List.{slice_get}
pub use Rattle.std.proofs.Math.ListN.{length-set}
pub use Rattle.expr_lang.specs.Prelude.{Term}
pub use Rattle.linearize.specs.Slots.{index_at, place_in}
pub use Rattle.record_dim.specs.Prelude.{kinds_of, Leaf, leaves, texts_of, Fields, Record, Tree, path_text_of, IsIn, IsDeclared, record_fault}
pub use Rattle.map_checks.specs.Prelude.{holds_by, accepted, else_for, leaf_cells, layout_by, most_slots, length-holds}
pub use Rattle.piece_bits.specs.Prelude.{hold_at, HasShape, with_entry, zeros, kind_at, Stays, zeros_shape, zeros_entry, fitting_stays}
pub use Rattle.views.specs.Prelude.{kept_by, store_answer, StoreAnswer, Keeping, kept_or, kept_row, kept_rows, answer_stays, Table, owners_of, leaf_count_of, after_stores, answer_of, kept_of, all_accesses, Access, Read, granules_for, after_log-none, IsOverLimits}
pub use Rattle.views.specs.declared.fault.StoreFault.{StoreFault}
pub use Rattle.row_updates.specs.Rows.{Setting, each, in_row, store_kind, value_of, passes, new_value, updated_row, with_values, updated_rows, updated_of}
pub use Rattle.worlds.specs.Prelude.{◌>>=◌, Goes, free, quiet, refused_if, ok_or, LeftOf, Left, known, shows, refused_by, sure, Tested, World, found, Entry, replaced, same_name, added, removed, Done, tells, done_to, Work, worked, Told, Shows, does, OnView, content_of, Changes, live_bits, blob_bits, resolved, made, zeros_of, shaped, with_view, named, there, read, filled, in_words, row_fault, narrow_fault, is_long, work_of, fails_at, all_read, are_alike, nameless, leaf_of, bound, bound_filter, bound_sets, each_once, leaves_of, text_of_leaf, small, fit_cuts, shared, inside, fit_kernel, kernel_row_fault, update_fault, value_on, storable, fit, fit_stencil, room_beside, stencil_fault, store_fault}
pub use Rattle.row_updates.specs.declared.fault.UpdateFault.{UpdateFault}
pub use Rattle.row_updates.specs.declared.fault.UpdateKind.{UpdateKind}
pub use Rattle.lane_kernels.specs.Kernels.{Store, stored, with_store, run_rows, answer_fault, kernel_store_fault, first_row_fault, empty_fault, kernel_fault}
pub use Rattle.lane_kernels.specs.declared.fault.KernelFault.{KernelFault}
pub use Rattle.lane_kernels.specs.declared.kernel.Kernel.{Kernel}
pub use Rattle.line_writer.proofs.Gives.{Each, IsSpelled, each_append, each_front, each_back}
pub use Rattle.blob_file.specs.Files.{Header, AreRows, is_wrap, view_line, header_text, IsShort, IsFile, image_bytes}
pub use Rattle.blob_file.specs.Opened.{answer_by, Saved, opened, table_of_saved, rows_in}
pub use Rattle.extents.specs.Indices.{product, indices}
pub use Rattle.extents.specs.Shapes.{is_rows, is_zero, extent_of, fixed_product, extents_for, bad_shape, bad_extents}
pub use Rattle.extents.specs.ShapeLaws.{same_fixed, product_filled, fixed_positive, product_fixed, product_divided}
pub use Rattle.extents.specs.declared.words.ExtentWord.{ExtentWord}
pub use Rattle.extents.specs.declared.words.ExtentWord.TheVariants.{Fixed, Rows}
pub use Rattle.line_grammar.specs.Prelude.{Chain, Grammar, Is, item, joined, which, nothing, deep, more, Splits, name_of, count_of, command_of, type_of, integer_type_of, token_order, aos_form_of, soa_form_of, map_word, Sentence, New, Define, View, Mapping, Load, Relayout, Open, Value, Assignment, name, count, fields, IsSentence, form_word, Reads, StopsAt}
pub use Rattle.line_grammar.specs.Grammar.{behind as behind_token, either, repeats}
pub use Rattle.line_grammar.specs.LeavesLaws.{Told as Asked, told as as_asked}
pub use Rattle.line_tokens.specs.Spelled.{AreSpelled, spaced_tokens, MayOpen}
pub use Rattle.line_tokens.specs.declared.sign.Sign.TheVariants.{OpenBracket, CloseBracket, Colon, Comma, OpenBrace, CloseBrace, OpenParen, CloseParen, Arrow}
pub use Rattle.map_expr.specs.Terms.{Term as MapTerm, Aos, Soa, Aosoa, BitAos, BitSoa, Split, Byteswap, Bytesplit, Change, Count as Counted, Heat as Heated, Named, depth_of, Named as NamedTerm}
pub use Rattle.map_expr.specs.Checks.{checked, has_counter, counts_once, bad_number, answered}
pub use Rattle.worlds.specs.declared.fault.CommandFault.TheVariants.{BadMapping, TooBig, BadExtents, BadActors}
pub use Rattle.places.specs.declared.piece.Cell.{Cell}
pub use Rattle.line_grammar.specs.declared.token.Token.{Token}
pub use Rattle.line_grammar.specs.declared.token.Token.TheVariants.{Word, Sign}
pub use Rattle.line_grammar.specs.declared.version.Version.TheVariants.{Two}
unfoldable pub use Rattle.line_grammar.specs.Prelude.{later, listed, bracket_list, part, parts, path, field_width, field_widths, braced_widths, inside_aos, inside_soa, inside_aosoa, inside_bits, inside_form, form_or_name, mapping_within, fixed, extent_word, actors, update_end, show_end, flag, new, body, command_line, line}
unfoldable pub use Rattle.line_grammar.specs.Language.{mapping as mapping_phrase}
pub use Rattle.line_writer.specs.Canonical.{count_token, line_tokens}
pub use Rattle.line_writer.specs.Texts.{written}
pub use Rattle.line_writer.proofs.Rooms.{fits_more, fits_flat, one_fits, word_spelled, fits_alone, Fits, no_tokens_fit, fits_append, fits_inside}
pub use Rattle.line_writer.proofs.ReadsBack.{decimal_spells, joined_reads, tokens_read}
pub use Rattle.blob_file.specs.Headers.{HasLine, CanLie, HasLines, is_nameless}
pub use Rattle.line_tokens.specs.Signs.{opens, closes}
pub use Rattle.line_tokens.specs.Spots.{brackets_after}
pub use Rattle.line_tokens.specs.declared.token.TokenKind.{TokenKind}
pub use Rattle.line_grammar.specs.declared.line.Command.{Command}
pub use Rattle.record_dim.specs.declared.leaf_type.LeafType.{LeafType}
pub use Rattle.places.specs.declared.piece.Hold.{Hold}
pub use Rattle.map_any.specs.AnyLaws.{length-leaf_cells}
pub use Rattle.piece_bits.specs.declared.mode.StoreMode.{StoreMode}
pub use Rattle.csv_rows.specs.Datasets.{Place, records_behind, one_column, columns_named, columns_of, unspaced, number_behind_sign, the_field, the_number, taken, value_at, row_values, table_from, with_columns, csv_records}
unfoldable pub use Rattle.csv_rows.specs.Datasets.{dataset_table}
pub use Rattle.blob_file.specs.Saving.{header_of, blobs_of}
pub use Rattle.csv_rows.specs.declared.fault.RowFault.{RowFault}
pub use Rattle.extents.specs.declared.order.Order.{Order}
pub use Rattle.map_expr.specs.declared.widths.FieldWidth.{FieldWidth}
pub use Rattle.line_grammar.specs.declared.line.MapWord.{MapWord}
pub use Rattle.layout_io.specs.Prelude.{File, file_named}
pub use Rattle.places.specs.Prelude.{Owner, bit_held, image}
pub use Rattle.instrument.specs.BlobTexts.{bytes_of}
pub use Rattle.instrument.specs.BlobTextsLaws.{length-bytes_of}
pub use Rattle.blob_file.specs.Statements.{OpensFiles, HoldsRows, HoldsBits}
unfoldable pub use Rattle.worlds.specs.Prelude.{on_view, new_table, view, load, loaded_table, loaded, save, open_view, opened_table, opened_beside, step, copy, copied, with_rows, laid_anew, relayout, drop_view, updated_by_actors, assigned, kernel_run, updated, define, mapping, stencil_run}
pub use Rattle.worlds.specs.declared.fault.CommandFault.{CommandFault}
pub use Rattle.equal_runs.specs.GoesLaws.{known_found, gone, free_found, IfGoes, to, refused, bind, behind, surely}
pub use Rattle.layout_copy.specs.Copies.{refusing, refused_at, spot_or, Spot, AreAlike}
pub use Rattle.line_grammar.specs.declared.version.Version.{Version}
pub use Rattle.schema_lang.specs.LineOf.{line_of}
pub use Rattle.equal_runs.specs.Lines.{AreLines, IsLine}
pub use Rattle.equal_runs.specs.Logs.{SoFar, one_more, Comes, further}
pub use Rattle.equal_runs.specs.EntryLaws.{found_added}
pub use Rattle.line_tokens.specs.declared.sign.Sign.{Sign as SignName}
pub use Rattle.extents.specs.IndicesLaws.{length-indices}
pub use Rattle.csv_rows.specs.Loads.{dataset_of}
pub use Rattle.command_checks.specs.AlikeLaws.{not_alike}
pub use Rattle.extents.specs.declared.window.Span.{Span}
pub use Rattle.record_dim.specs.declared.path.PathStep.{PathStep}
pub use Rattle.line_grammar.specs.declared.line.KernelText.{KernelText}
pub use Rattle.line_grammar.specs.declared.line.TermText.{TermText}
pub use Rattle.actor_steps.specs.Prelude.{actor_of, shared_byte}
pub use Rattle.worlds.specs.declared.fault.BadActors.TheVariants.{Cuts, Turns}
pub use Rattle.saved_runs.specs.SavedRuns.{IsSavable, once_written, OpensAs, SavedOpens, OpenedSaves, HasRoom}
pub use Rattle.saved_runs.specs.ReopenedRuns.{RunsSavable, RunsReopen}
pub use Rattle.subviews.specs.Stencils.{stenciled}
pub use Rattle.subviews.specs.RoundsLaws.{rounds_keep}
