-- What the proofs of this crate speak of.
pub use Rattle.row_updates.specs.Imports.{index_at, is_signed, IsDeclared, Leaf, leaves, kinds_of, Fields, StoreFault, Step}
pub use Rattle.record_dim.specs.Std.{◌≡◌, ℕ, zero, suc, ◌+◌, ◌<◌, ◌≤◌, List, [], ◌∷◌, ◌++◌, length, get_or, take, ℤ, Result, Ok, Err, refl, sym, ap, ◌∙◌, arith, set, Some, map, Bool, true, false, Option, None, MutBor, ◌≤ℤ◌, pos, neg_ℤ, FitsSigned, w64, take_all, drop, is_ok, subst, count_by, cond, get_or-drop, ◌^◌, length-drop, rules, ◌-◌, slice_index, range_with_len, slice_set, unsigned_abs, if◌then◌else◌, OnOk, IfOk, IfErr, get_or_from_slice_get, AllZip-long, append-nil, append_assoc, map-append, take_more, take_more_set, drop-set-lt, drop_more, get_or-set_same, set-set, get_or-map, length-set, length-map, get_or-take, length-take-le, set-get_or, drop-drop, take-append-drop, take-map, w128, to_z-of_z, fits_signed_from_abs, sum_by-append, count_by-le-length, sum_by-cons, option_or, All-get_or, common_steps}
pub use Rattle.std.specs.List.{slice_get, fold}
pub use Rattle.std.proofs.lemmas.Grind.{drop_more_same}
pub use Rattle.linearize.specs.LinesLaws.{index_in_line}
pub use Rattle.views.specs.Prelude.{Keeping, StoreAnswer, without_number, kept_or, Access, Read, Write, Tally, after_log-append, after_reads, logs_more, after_log-none, after_stores-append, Table, answer_of, after_log, after_read, kept_of, after_stores, after_write, IsTable, leaf_count_of, leaf_type_of, leaf_types_of, table_holds, raised, stored_count, told_lane, in_leaf, column, with_column, column_writes, first_lane_fault, lane_fault, raised_low, raised_same, stays_answer, told_ok, no_column, length-with_column}
pub use Rattle.views.proofs.StoreLaws.{map_same}
pub use Rattle.extents.specs.Indices.{indices, IsInside}
pub use Rattle.extents.specs.IndicesLaws.{length-indices, place}
pub use Rattle.expr_lang.specs.Prelude.{Term, outcome_of, is_true, IsSafe, worth, step_term, links_term, operand_term, chain_term, AreWithin, one_more, safe_front, within_front, within_links, within_rest, safe_steps, safe_rest, no_deeper, stepped, IsStepFit, IsWorthIn, IsRight, AreStepsSafe, step_worth, step_fits, bound_term}
pub use Rattle.record_dim.specs.declared.leaf_type.LeafType.{LeafType}
pub use Rattle.record_dim.specs.declared.leaf_type.LeafType.TheVariants.{Bool as Truth}
pub use Rattle.piece_bits.specs.Prelude.{with_entry, hold_at, low_64, low_same, stays_declared}
pub use mir.Val.{bool_byte}
pub use Rattle.views.specs.declared.fault.LaneFault.{LaneFault}
pub use Rattle.expr_lang.specs.declared.bound.Links.{Links, size-Links}
pub use Rattle.expr_lang.specs.declared.bound.Link.{Link}
pub use Rattle.row_updates.specs.declared.fault.UpdateFault.{UpdateFault}
pub use Rattle.row_updates.specs.Rows.{each, ◌>>=◌, Setting, with_values, passes, new_value, tried_row, setting_of, in_row, store_kind, value_of, updated_row, updated_rows, updated_of, counted, filter_term, IsSetOf}
pub use Rattle.row_updates.specs.Logs.{value_log, filter_log, if_ok, if_passes, sides_log, stores_log, tried_log, row_log, count_log, update_log}
pub use Rattle.row_updates.specs.TriedLaws.{log_as_tried, updated_as_tried, tried_values}
pub use Rattle.row_updates.specs.declared.update.Assign.{Assign}
pub use Rattle.row_updates.specs.Inner.Updated.{AreUpdated, IsStopped, AreCounted, row_test, IsCounted, IsCountStopped, IsStill, IsRunUpdated, AreTested, lane_test}
pub use Rattle.row_updates.specs.Inner.ValueRuns.{row_of, AreNear, IsIdle, IsGiven, AreGiven, AreWorth, IsRunOf, AreRights}
pub use Rattle.row_updates.specs.declared.runs.Run.{Run}
