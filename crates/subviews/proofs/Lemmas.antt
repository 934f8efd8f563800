-- The lemmas of this crate that answers cite.
pub use Rattle.subviews.proofs.Imports.{rules, ◌+◌, ℤ, FitsSigned, w64, slice_set, sym, subst, arith, to_z-of_z, ◌≡◌, length, ◌<◌, ◌≤◌, ◌∙◌, ℕ, pos, List, get_or, ap, ints, indices, index_at_inside, row_from, [], IsErr, map, flat_map, take, refl, Contains-get_or, decimal_text, Puts-loop_err, comma_line, Read, row_accesses, after_log-none, after_log-append, leaf_count_of, after_log, rows_of, outer_row, sub_table, false, ◌==◌, nat_tests, same_rank, common_steps, ◌-◌, w128, Table, answer_of, kept_of, IsFilled, run_fault, with_run, IsTable, IsBufferOf, IsPlanOf, IsRunOf, Plan, Run, Err, to_z, of_z, stenciled, stencil_by, planned, AreConsecutive, IsWalk, ◌+ℤ◌, ◌*ℤ◌, leaf_type_of, Some, mod_below, slice_get, column_reads}
pub use Rattle.subviews.proofs.Ways.{AreFar, far_more, IsStep, target, row_held, row_inside, reach_inside, step_at, step_more, whole_target, landed, far_from_one}
pub use Rattle.subviews.proofs.Fronts.{logs_front}
pub use Rattle.subviews.proofs.Printed.{sub_row, sub_count, row_below}
pub use Rattle.subviews.proofs.Corners.{reaches_rest}
pub use Rattle.subviews.proofs.Back.{all_raised, all_fit, all_kept}
pub use Rattle.subviews.proofs.Growth.{run_at, run_inside, run_behind, rows_grow, run_between, run_first}
pub use Rattle.subviews.proofs.Passes.{none_filled, refused_here, taken_here, fill_stopped, filled_more, filled_all, buffer_row, buffer_leaf, run_filled, plan_still, no_round, same_after, buffer_same, round_done, round_stopped, after_more, IsRefused, is_refused, stopped, IsAfter, IsStored, none_stored, run_stored}
pub use Rattle.subviews.proofs.AtOnce.{are_taken, count_told, count_refused}
pub use Rattle.subviews.proofs.Values.{IsSummed, weight_small, entry_small, product_fits, sum_fits, summed_more, plan_term, reached}
pub use Rattle.subviews.proofs.Near.{read_inside, values_read, products_fit, sums_fit, summed_run, AreSummed}
