-- What this crate takes of others.
pub use Rattle.actor_steps.specs.Prelude.{actor_of, are_cuts, shared_byte, written_by}
pub use Rattle.actor_steps.specs.declared.place.Place.{Place}
pub use Rattle.advisor.specs.declared.advice.AdviseFault.{AdviseFault}
pub use Rattle.advisor.specs.declared.pass.Pass.{Pass}
pub use Rattle.blob_file.specs.Opened.{empty_table, same_bytes, table_of_saved}
unfoldable pub use Rattle.blob_file.specs.Opened.{opened}
pub use Rattle.blob_file.specs.Parts.{header_by}
pub use Rattle.blob_file.specs.Saving.{blobs_of, header_of}
pub use Rattle.blob_file.specs.declared.fault.FileFault.{FileFault}
pub use Rattle.csv_rows.specs.Datasets.{csv_records, records_behind}
pub use Rattle.csv_rows.specs.Loads.{dataset_of}
pub use Rattle.csv_rows.specs.Texts.{comma_line}
unfoldable pub use Rattle.csv_rows.specs.Texts.{print_text}
pub use Rattle.csv_rows.specs.declared.fault.RowFault.{RowFault}
pub use Rattle.expr_lang.specs.Prelude.{Term, leaf_number, numbered, outcome_of, unknowns}
pub use Rattle.expr_lang.specs.declared.expr.BinOp.{BinOp}
pub use Rattle.expr_lang.specs.declared.fault.BindFault.{BindFault}
pub use Rattle.expr_lang.specs.declared.fault.EvalFault.{EvalFault}
unfoldable pub use Rattle.extents.specs.Indices.{indices}
pub use Rattle.extents.specs.Shapes.{bad_extents, bad_shape, extents_for}
pub use Rattle.extents.specs.declared.window.Span.{Span}
pub use Rattle.extents.specs.declared.words.BadExtents.{BadExtents}
pub use Rattle.extents.specs.declared.words.ExtentWord.{ExtentWord}
pub use Rattle.instrument.specs.BlobTexts.{bytes_of}
unfoldable pub use Rattle.instrument.specs.BlobTexts.{bytes_text}
unfoldable pub use Rattle.instrument.specs.CounterTexts.{counts_text, heat_text, runs_text}
pub use Rattle.lane_kernels.specs.Kernels.{Compare, Eq, Ge, Gt, Le, Lt, Ne}
pub use Rattle.lane_kernels.specs.Logs.{kernel_rows_log}
pub use Rattle.lane_kernels.specs.Reductions.{reduced_by}
pub use Rattle.lane_kernels.specs.declared.fault.KernelFault.{KernelFault}
pub use Rattle.lane_kernels.specs.declared.kernel.Kernel.{Kernel}
pub use Rattle.lane_kernels.specs.declared.kernel.Kernel.TheVariants.{Axpy, Clamp, CountWhere, Greatest, Least, Sum}
pub use Rattle.lane_kernels.specs.declared.reduce.Reduction.{Reduction}
pub use Rattle.layout_copy.specs.Copies.{Spot, refused_at}
pub use Rattle.layout_io.specs.Prelude.{File, Puts, Rose, Stopped, Writes, Wrote, decimal_text, file_named, joined, text_of_part, with_bytes}
unfoldable pub use Rattle.layout_io.specs.Prelude.{digits_text}
pub use Rattle.line_grammar.specs.Prelude.{Assignment, New, Value}
pub use Rattle.line_grammar.specs.declared.line.KernelText.{KernelText}
pub use Rattle.line_grammar.specs.declared.line.PassText.{PassText}
pub use Rattle.line_grammar.specs.declared.line.ReduceKind.{ReduceKind}
pub use Rattle.line_grammar.specs.declared.line.ShowKind.{ShowKind}
pub use Rattle.line_grammar.specs.declared.line.TermText.{TermText}
pub use Rattle.line_writer.specs.Canonical.{map_tokens}
pub use Rattle.line_writer.specs.Texts.{with_tokens_behind}
pub use Rattle.linearize.specs.Slots.{place_in}
unfoldable pub use Rattle.map_any.specs.BitRuns.{runs_of}
pub use Rattle.map_checks.specs.Prelude.{accepted, leaf_cells, most_slots}
pub use Rattle.map_expr.specs.Checks.{bad_granule, checked}
pub use Rattle.map_expr.specs.Terms.{Bytesplit, Byteswap, Change, Count, Heat, Named, Split, Term as MapTerm}
pub use Rattle.map_expr.specs.declared.check.BadMapping.{BadMapping}
pub use Rattle.piece_bits.specs.Prelude.{with_entry}
pub use Rattle.piece_bits.specs.declared.mode.StoreMode.{StoreMode}
pub use Rattle.places.specs.Prelude.{Owner, image}
pub use Rattle.places.specs.declared.piece.Run.{Run}
pub use Rattle.record_dim.specs.Prelude.{Array, End, Field, Fields, Record, Single, Tree, first_text, kind_number, kinds_of, leaves, leaves_before, leaves_of, node_of, path_text_of, paths_of}
pub use Rattle.record_dim.specs.Prelude.{record_fault, step_text, texts_of, width_of}
pub use Rattle.record_dim.specs.Std.{enumerate_from, list_all, list_any, pointwise, range_with_len, slice_split, ⊎_elim}
pub use Rattle.record_dim.specs.declared.fault.BadRecord.{BadRecord}
pub use Rattle.record_dim.specs.declared.path.PathStep.{PathStep}
pub use Rattle.row_updates.specs.Logs.{count_log, rows_log, update_log, value_log}
pub use Rattle.row_updates.specs.Rows.{Setting, counted, updated_of, updated_rows}
pub use Rattle.row_updates.specs.declared.fault.UpdateFault.{UpdateFault}
pub use Rattle.row_updates.specs.declared.fault.UpdateKind.{UpdateKind}
pub use Rattle.std.specs.List.{position_or_len, slice_get, slice_index_or}
pub use Rattle.std.specs.Prelude.{Bool, Err, IfOk, IsSome, IsSomeAnd, List, MatchOption, None, Ok, Option, Result, Some, [], codes, false, flat_map, int_le, int_lt, is_ok, is_some, length, map}
pub use Rattle.std.specs.Prelude.{nat_eq, nat_le, nat_lt, neg_ℤ, not, pos, sum_by, take, true, ℕ, ℤ, ⊤}
pub use Rattle.subviews.specs.Stencils.{Stencil, Weighted, is_divisor, is_weight, reaches, rounds_log, stenciled}
pub use Rattle.subviews.specs.SubViews.{WindowOf, sub_reads, sub_table}
pub use Rattle.subviews.specs.declared.fault.StencilFault.{StencilFault}
pub use Rattle.views.specs.Prelude.{Access, Read, Table, Write, after_log, after_stores, all_accesses, answer_of, column_reads, granules_for, kept_of, kept_rows, kind_at, leaf_count_of, owners_of}
pub use Rattle.views.specs.Prelude.{reads_first}
pub use Rattle.views.specs.declared.fault.StoreFault.{StoreFault}
