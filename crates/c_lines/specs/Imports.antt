-- What this crate takes of others.
pub use Rattle.blob_file.specs.Files.{record_text, view_text}
unfoldable pub use Rattle.blob_file.specs.Files.{file_of}
pub use Rattle.blob_file.specs.Saving.{blobs_of, header_of}
pub use Rattle.blob_file.specs.declared.fault.FileFault.{FileFault}
pub use Rattle.byteorder.specs.Endian.{little_bytes, little_number, low_bytes, twos_complement}
pub use Rattle.command_checks.specs.Inner.Bases.{is_nameless}
pub use Rattle.command_checks.specs.declared.fault.StepFault.{StepFault}
pub use Rattle.csv_rows.specs.Datasets.{csv_records, records_behind}
unfoldable pub use Rattle.csv_rows.specs.Texts.{print_text}
pub use Rattle.csv_rows.specs.declared.fault.RowFault.{RowFault}
unfoldable pub use Rattle.extents.specs.Indices.{indices}
pub use Rattle.extents.specs.Shapes.{IsShape}
pub use Rattle.extents.specs.declared.window.Span.{Span}
pub use Rattle.extents.specs.declared.words.BadExtents.{BadExtents}
pub use Rattle.extents.specs.declared.words.ExtentWord.{ExtentWord}
pub use Rattle.instrument.specs.Counters.{LeafCounts}
pub use Rattle.layout_copy.specs.Copies.{AreAlike, IsCopied, Spot, refused_at, source_log}
pub use Rattle.layout_io.specs.Prelude.{decimal-digits_text, flat_map_push, joined, with_bytes}
unfoldable pub use Rattle.layout_io.specs.Prelude.{digits_text}
pub use Rattle.leaf_places.specs.Places.{ArePlacesOf, IsDirect, MustTell}
pub use Rattle.leaf_places.specs.declared.told.Places.{Places}
pub use Rattle.line_grammar.specs.Prelude.{Define, Load, New, Relayout, Sentence, View, assignment_of, deepest, sentence_of}
pub use Rattle.line_grammar.specs.declared.line.Line.{Line}
pub use Rattle.line_grammar.specs.declared.version.Version.TheVariants.{Two}
pub use Rattle.map_expr.specs.Terms.{Term, term_of}
pub use Rattle.map_expr.specs.declared.check.BadMapping.{BadMapping}
pub use Rattle.piece_bits.specs.Prelude.{IsWithin64, hold_at, low_64, value_bits}
pub use Rattle.piece_bits.specs.declared.mode.StoreMode.{StoreMode}
pub use Rattle.places.specs.Prelude.{bit_held, entry, image, range_split}
pub use Rattle.record_dim.specs.Prelude.{Fields, IsDeclared, is_signed, least_in, same_text, schema_fields, text_self, texts_of, width_of}
pub use Rattle.record_dim.specs.Std.{flat_map, int_eq, range_with_len}
pub use Rattle.record_dim.specs.declared.fault.BadRecord.{BadRecord}
pub use Rattle.record_dim.specs.declared.leaf_type.LeafType.{LeafType}
pub use Rattle.record_dim.specs.declared.leaf_type.LeafType.TheVariants.{U64}
unfoldable pub use Rattle.schema_lang.specs.LineOf.{line_of}
pub use Rattle.schema_lang.specs.Parsing.{HasItsFields}
pub use Rattle.std.specs.Int.{w64}
pub use Rattle.std.specs.List.{find, list_all}
pub use Rattle.std.specs.Prelude.{Bool, Contains, Err, IfErr, IfOk, IfSome, List, MatchResult, None, Ok, OnErr, OnOk, Option, Result, Some, [], codes, drop, false, int_le, int_lt, length, map, nat_eq}
pub use Rattle.std.specs.Prelude.{nat_le, nat_lt, neg_ℤ, not, option_map, pos, slice_get, slice_index_or, take, true, ℕ, ℤ}
pub use Rattle.subviews.specs.SubViews.{rows_of}
pub use Rattle.view_commands.specs.Changes.{Changed, Ends, HasRows, all_left, front_left, kernel_left, left_at, row_of, stencil_left, updated_front}
pub use Rattle.view_commands.specs.declared.change.ChangeFault.{ChangeFault}
pub use Rattle.views.specs.Prelude.{Access, Read, Table, TakesAll, Write, after_log, after_read, after_stores, after_write, all_accesses, answer_of, column_reads, kept_of, kept_rows, leaf_count_of}
pub use Rattle.views.specs.Prelude.{leaf_type_of, owners_of, raised, row_accesses, run_fault, run_of, stored_count, with_run, without_number}
pub use Rattle.views.specs.declared.fault.LaneFault.{LaneFault}
pub use Rattle.views.specs.declared.fault.StoreFault.{StoreFault}
pub use Rattle.worlds.specs.Prelude.{Done, Entry, Left, Named, Tested, Wording, World, added, all_read, blob_bits, copied_by, done_by, done_to, empty, fault_words, filled_by, fit_kernel, fit_stencil}
pub use Rattle.worlds.specs.Prelude.{is_long, laid_anew_by, live_bits, loaded_by, made, named, nameless, new_table_by, number_text, ok_or, refused_by, resolved, text_of_leaf, windowed, ◌>>=◌}
unfoldable pub use Rattle.worlds.specs.Prelude.{define}
pub use Rattle.worlds.specs.declared.fault.BadActors.{BadActors}
pub use Rattle.worlds.specs.declared.fault.BadAdvice.{BadAdvice}
pub use Rattle.worlds.specs.declared.fault.BadFile.{BadFile}
pub use Rattle.worlds.specs.declared.fault.BadKernel.{BadKernel}
pub use Rattle.worlds.specs.declared.fault.BadStencil.{BadStencil}
pub use Rattle.worlds.specs.declared.fault.CommandFault.{CommandFault}
