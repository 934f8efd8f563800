-- The lemmas of this crate that answers cite.
pub use Rattle.layout_copy.proofs.Imports.{rules, ◌∙◌, sym, Table, after_log-none, AreAlike, common_steps, arith, ◌≡◌, ◌<◌, ℕ, List, length, refl, ap, indices, leaf_count_of, ◌+◌, ◌*◌, ◌≤◌, after_log, Read, all_accesses, ℤ, pos, true, [], None, is_ok, get_or, subst, answer_of, refusing, row_accesses, no_leaf_moved, leaf_moved, stores_quiet, steps_few, rows_after, leaf_sizes, ◌-◌, ◌%◌, min, with_rows, steps_before, order_by, ⊎_elim, Some, slice_get, cases_lt, length-map, Leaf, leaves, kinds_of, Fields, Hold, length-leaf_cells, leaf_types_of, table_holds}
pub use Rattle.layout_copy.proofs.WayLaws.{moved_way, own_read, read_own}
pub use Rattle.layout_copy.proofs.Whole.{fields_steps, blobs_copied, runs_copied, runs_back, rows_copied}
pub use Rattle.layout_copy.proofs.Rows.{row_read, row_copied, row_refused, steps_more, AreCopied, each_taken, AreRead}
pub use Rattle.layout_copy.proofs.RowRuns.{alike_after, same_rows, leaf_steps, all_before}
pub use Rattle.layout_copy.proofs.CostLaws.{cut_at, round_counted, multiple_on}
pub use Rattle.layout_copy.proofs.Pieces.{piece_moved, steps_of_round, AreBelow}
