-- What the proofs of this crate speak of.
pub use Rattle.record_dim.specs.Std.{◌≡◌, ℕ, zero, suc, ◌+◌, ◌<◌, ◌≤◌, true, ℤ, pos, List, [], ◌∷◌, ◌++◌, length, map, take, drop, get_or, Option, Some, None, Result, Ok, Err, is_ok, refl, ap, sym, ◌∙◌, arith, ◌%◌, ◌^◌, negsuc, FitsSigned, to_z, of_z, w64, subst, Contains, is_err, cond, not, ◌-◌, Bool, false, filter, ◌*◌, ◌+ℤ◌, ◌*ℤ◌, fold, ⊎_elim, neg_ℤ, ◌-ℤ◌, ◌≤ℤ◌, All, slice_set, rules, IsErr, option_or, length-map, length-take-le, length-drop, get_or-map, get_or-take, get_or-drop, take_all, append-nil, take_more, map-append, take-map, get_or-set_same, get_or-set_other, length-set, map-range_with_len_more, ints, of_z-to_z, unsigned_abs-mul, fits_signed_from_abs, to_z-of_z, mod-eq_of_lt, mul-div-le, div-le_self, mul-le-mul_right, position_or_len, enumerate_from, list_all, flat_map-append, slice_get, if◌then◌else◌, max, unsigned_abs, ◌&&◌, ◌==◌, nat_lt, int_div, ◌||◌, int_le, slice_get-get_or, slice_get_within, get_or_from_slice_get, sum_by_more, sum_by_more_le, fold_more, AllPass-from_list_all, passes_at_first, list_all-from_AllPass, fails_before_first, mul-le, mod_below, cases_eq, cases_lt, and_parts, ltb-true, lt-ltb, nat_tests, w128, signed_items, Contains-get_or, common_steps}
pub use Rattle.std.proofs.Common.{flat_map}
pub use Rattle.piece_bits.specs.Prelude.{low_64, IsWithin64, with_entry, hold_at, HasShape, code_low, low_same, declared, kept, declared_same, kept_declared, stays_declared, with_entry_shape, with_entry_same, with_entry_other}
pub use Rattle.places.specs.Prelude.{entry}
pub use Rattle.views.specs.Prelude.{column_writes, lane_fault, first_lane_fault, column_reads, no_column, entry_more, run_of, told_lane, stored_count, raised, run_fault, with_run, StoreAnswer, Fits, Stays, store_answer, kept_or, kind_at, without_number, Write, Tally, tallied, Access, Read, row_accesses, after_log-none, after_stores-append, after_log-append, tallied-none, logs_more, Table, after_stores, IsTable, leaf_count_of, leaf_types_of, leaf_type_of, table_holds, answer_of, kept_of, owners_of, after_log, after_write, after_read, low_declared, raised_low, raised_all, told_err, told_kept, told_ok, holds_uncounted, between_true, with_column}
pub use Rattle.views.specs.Columns.{with_column as with_values}
pub use Rattle.views.specs.declared.fault.LaneFault.{LaneFault}
pub use Rattle.views.specs.declared.fault.StoreFault.{StoreFault}
pub use borrow.Author.Gap.{read_sfits}
pub use Rattle.extents.specs.Indices.{indices, product, IsInside, IsExtents}
pub use Rattle.piece_bits.specs.declared.mode.StoreMode.{StoreMode}
pub use Rattle.piece_bits.specs.declared.mode.StoreMode.TheVariants.{Strict, Wrap}
pub use Rattle.places.specs.declared.piece.Hold.{Hold}
pub use Rattle.record_dim.specs.declared.leaf_type.LeafType.{LeafType}
pub use Rattle.record_dim.specs.Prelude.{Leaf, leaves, kinds_of, IsDeclared, Fields}
pub use Rattle.extents.specs.Windows.{holds, IsWindow, sizes, moved}
pub use Rattle.extents.specs.WindowLaws.{numbers_of, inside_length, window_count, window_row, moved_inside, same_rank}
pub use Rattle.extents.specs.declared.window.Span.{Span}
pub use Rattle.map_checks.specs.Prelude.{IsBuiltTerm}
pub use Rattle.map_expr.specs.Terms.{uncounted}
pub use Rattle.layout_io.specs.Prelude.{HasPut, Writes-puts_err, Puts-stop, Puts-loop_err, decimal_text}
pub use Rattle.record_dim.specs.declared.leaf_type.LeafType.TheVariants.{Bool as Truth}
pub use Rattle.extents.specs.IndicesLaws.{place, entry_at, same_row, inside_of_entry, row_of_inside}
pub use Rattle.linearize.specs.Slots.{index_at}
pub use Rattle.linearize.specs.SlotsLaws.{entry_of_row, index_at_inside}
pub use Rattle.csv_rows.specs.Texts.{comma_line}
unfoldable pub use Rattle.csv_rows.specs.Texts.{print_text}
pub use Rattle.subviews.specs.Stencils.{with_entries, at_row, first_round_fault, weighted, row_from, Stencil, values_fault, stencil_value, new_entry, if_fits, round, next_round, stenciled, term_reads, round_reads, round_writes, round_log, tried_rows, rounds_log, refused_log, Weighted, term_value, term_read, is_weight, away, is_index, is_offset, reaches}
pub use Rattle.subviews.specs.Plans.{IsBufferOf, AreConsecutive, IsRunOf, IsPlanOf, all_weights, limit_of, IsIdle, IsFilled, planned, IsTermOf, IsFar, IsWalk, stencil_by}
pub use Rattle.subviews.specs.SubViews.{WindowOf, rows_of, outer_row, sub_table}
pub use Rattle.subviews.specs.Inner.Reach.{stays, all_stay}
pub use Rattle.subviews.specs.declared.runs.Run.{Run}
pub use Rattle.subviews.specs.declared.plan.Plan.{Plan}
pub use Rattle.subviews.specs.declared.term.Term.{Term}
pub use Rattle.subviews.specs.declared.fault.StencilFault.{StencilFault}
