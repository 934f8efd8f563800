-- What the proofs of this crate speak of.
pub use Rattle.equal_runs.specs.Imports.{CommandFault, least_of, greatest_of, least_in, greatest_in, kinds_of, texts_of, leaves, Tree, Fields, indices, LeafCounts, HeatCounts, no_counts, counts_text, heat_text, Value, Assignment, Sentence, New, View, Relayout, Mismatch, NotCounted, TooBig, Unknown, Taken, BadMapping, TooManyViews, Name, File, Version}
pub use Rattle.record_dim.specs.Std.{◌≡◌, ℕ, Bool, true, false, List, Option, Some, None, Result, Ok, Err, subst, ℤ, refl, [], ◌∷◌, ◌++◌, length, sym, ap, ◌∙◌, suc, arith, append_assoc, zero, option_map, if◌then◌else◌, ◌+◌, ◌*◌, ◌^◌, not, nat_lt, is_some, ◌&&◌, IfSome, nat_le, ⊤, list_any, flat_map, range_with_len, option_or, length-map, or_parts}
pub use Rattle.std.specs.List.{slice_index_or, slice_get, fold}
pub use Rattle.worlds.specs.Prelude.{Outcome, ◌>>=◌, refused_if, refused_by, ok_or, LeftOf, Left, known, some_or, free, quiet, Tested, Stop, Fault, Unread, sure, World, found, Entry, same_name, added, replaced, removed, Done, stores, tells, done_to, with_table, Work, worked, content_of, Reads, Shows, Changes, left_as, does, OnView, leaf_of, bound, bound_filter, bound_sets, each_once, leaves_of, text_of_leaf, nameless, storable, store_fault, value_on, inside, update_fault, kind_fault, are_alike, all_read, kernel_outcome, fit_kernel, number_text, kernel_row_fault, blob_bits, made, resolved, room, shaped, zeros_of, live_bits, fit, bad_file, filled, read, in_words, narrow_fault, row_fault, work_of, with_view, named, Named, Output, run_from, after, fails_at, prepend, fit_stencil, room_beside, stencil_fault, stencil_rounds}
pub use Rattle.record_dim.specs.declared.leaf_type.LeafType.{LeafType}
pub use Rattle.places.specs.declared.piece.Hold.{Hold}
pub use Rattle.piece_bits.specs.Prelude.{kept, hold_at, with_entry, zeros, zeros_shape}
pub use Rattle.piece_bits.specs.declared.mode.StoreMode.{StoreMode}
pub use Rattle.piece_bits.specs.declared.mode.StoreMode.TheVariants.{Strict, Wrap}
pub use Rattle.views.specs.Prelude.{store_answer, kept_or, is_between, Keeping, kind_at, StoreAnswer, kept_row, kept_rows, kept_by, Access, Write, Tally, all_accesses, Read, tallied, no_tally, granules_for, counts_touched, Table, leaf_count_of, answer_of, kept_of, after_stores, owners_of, IsWide, tallied-none, tallied-append, tallied-counts, AreEntries, AreCounts, AreHeat, kept_alike}
pub use Rattle.views.specs.declared.fault.StoreFault.{StoreFault}
pub use Rattle.views.specs.declared.fault.StoreFault.TheVariants.{Range, Narrow}
pub use Rattle.extents.specs.declared.window.Span.{Span}
pub use Rattle.linearize.specs.Slots.{place_in, index_at}
pub use Rattle.record_dim.specs.declared.path.PathStep.{PathStep}
pub use Rattle.map_expr.specs.Terms.{Term as MapTerm, Split, Byteswap, Bytesplit, Change, Count, Heat}
pub use Rattle.map_checks.specs.Prelude.{holds_by, leaf_cells, layout_by, most_slots, accepted}
pub use Rattle.expr_lang.specs.Prelude.{Term}
pub use Rattle.line_grammar.specs.declared.line.KernelText.{KernelText}
pub use Rattle.line_grammar.specs.declared.line.TermText.{TermText}
pub use Rattle.row_updates.specs.Rows.{Setting, updated_rows, each, in_row, store_kind, value_of, passes, new_value, with_values, updated_row}
pub use Rattle.row_updates.specs.Logs.{value_log, rows_log, filter_log, if_ok, if_passes, sides_log, stores_log, row_log}
pub use Rattle.row_updates.specs.declared.fault.UpdateFault.{UpdateFault}
pub use Rattle.row_updates.specs.declared.fault.UpdateKind.{UpdateKind}
pub use Rattle.lane_kernels.specs.declared.fault.KernelFault.{KernelFault}
pub use Rattle.lane_kernels.specs.declared.kernel.Kernel.{Kernel}
pub use Rattle.subviews.specs.declared.fault.StencilFault.{StencilFault}
unfoldable pub use Rattle.worlds.specs.Prelude.{on_view, assigned, updated, copied, copy, relayout, laid_anew, with_rows, kernel_run, counts, drop_view, heat, define, open_view, opened_beside, opened_table, load, loaded_table, loaded, mapping, step, view, new_table, stencil_run}
pub use Rattle.lane_kernels.specs.Kernels.{Store, answer_fault, first_row_fault, kernel_fault, kernel_store_fault}
pub use Rattle.csv_rows.specs.Datasets.{Place, Leaf, the_field, the_number, number_behind_sign, unspaced, refusal, taken, value_at, row_values, table_from, with_columns, columns_of, header_record, records_behind, csv_records}
unfoldable pub use Rattle.csv_rows.specs.Datasets.{dataset_table}
pub use Rattle.csv_rows.specs.declared.fault.RowFault.{RowFault}
pub use Rattle.csv_rows.specs.declared.fault.RowFault.TheVariants.{ShortRow, Number}
pub use Rattle.blob_file.specs.Opened.{Saved, opened, rows_in, table_of_saved}
pub use Rattle.csv_rows.specs.Loads.{dataset_of}
pub use Rattle.map_expr.specs.Checks.{checked}
pub use Rattle.worlds.specs.Wordings.{row_fault as fault_of}
pub use Rattle.extents.specs.declared.words.ExtentWord.{ExtentWord}
pub use Rattle.map_any.specs.AnyLaws.{holds_cells, length-leaf_cells}
pub use Rattle.places.specs.Prelude.{Owner}
pub use Rattle.layout_copy.specs.Copies.{refused_at}
pub use Rattle.map_any.specs.Counters.{has_count}
pub use Rattle.equal_runs.specs.Endings.{is_refused, is_of_layout, misses_mapping, ends_after, ends_by_layout}
pub use Rattle.equal_runs.specs.Lines.{shows_layout, with_term, AgreeButTerms, IsLine, AreLines}
pub use Rattle.equal_runs.specs.EntryLaws.{found_added, found_replaced}
pub use Rattle.equal_runs.specs.GoesLaws.{IfGoes, to, refused, bind, behind, known_found, free_found, gone, goes_each, surely}
pub use Rattle.equal_runs.specs.Logs.{log_in, logged, reads_of, writes_of, fills_of, work_logs, logs_after, SoFar, at_first, one_more, Comes, there, further, log_of}
pub use Rattle.equal_runs.specs.Widths.{MakesWide, HoldsOf, StaysWide}
pub use Rattle.equal_runs.specs.EqualRuns.{DoesLines, EqualRuns}
pub use Rattle.equal_runs.specs.RunEntries.{ShowsCounts, ShowsHeat, ShowsEntries, tally_since}
pub use Rattle.worlds.specs.OnView.{Told}
pub use Rattle.subviews.specs.SubViews.{rows_of}
pub use Rattle.subviews.specs.Stencils.{Stencil, rounds_log, stencil_value, at_row, first_round_fault, values_fault, with_entries, new_entry, if_fits, round, next_round, after_rounds}
