-- What the proofs of this crate speak of.
pub use Rattle.record_dim.specs.Std.{◌≡◌, ⊎_elim, ℕ, ◌+◌, ◌*◌, ◌/◌, ◌%◌, ◌<◌, ◌≤◌, Bool, true, false, ◌||◌, List, [], ◌∷◌, map, take, length, get_or, sum_by, refl, sym, ap, ◌∙◌, arith, ℤ, Option, Some, None, option_map, subst, zero, suc, pos, ◌++◌, drop, set, is_ok, append-nil, Ok, ◌-◌, rules, min, if◌then◌else◌, IfSome, IsSomeAnd, slice_get, range_with_len, mul-mod_left, div-add-mod', mul-le, cases_lt, eqb-true, or_right, length-map, get_or-map, at_drop_more, take_more, get_or-set_same, length-set, take-set-le, sum_by-cons, sum_by_more, sum_by-le-sum_by, get_or_from_slice_get, to_z-of_z}
pub use Rattle.record_dim.specs.declared.leaf_type.LeafType.{LeafType}
pub use Rattle.record_dim.specs.declared.leaf_type.LeafType.TheVariants.{Bool as Truth}
pub use Rattle.blobs.specs.Moves.{blocks}
pub use Rattle.views.specs.Prelude.{all_pieces, same_steps, same_slots, size_of, IsRunMoved, IsOwn, is_cut, piece_count, piece_at, slot_steps, HasSlots, span_join, sum_both, kind_at, StoreAnswer, kept_row, kept_rows, AllStay, with_rows, stays_moves, may_move, runs_full, rows_after, Table, IsTable, leaf_count_of, answer_of, kept_of, after_log, after_stores, after_read, table_holds, leaf_types_of, AreBefore, nothing_after, no_leaf_moved, leaf_moved, stores_quiet, steps_few, half, half_more, after_log-none, after_log-append, logs_more, accesses_more, Access, Read, Write, row_accesses, all_accesses, all_touches, CountsNothing, TakesAll, AreRowsMoved, holds_uncounted, told_same}
pub use Rattle.extents.specs.Indices.{indices}
pub use Rattle.extents.specs.declared.order.Order.{Order}
pub use Rattle.linearize.specs.Slots.{slot_at, slot_count}
pub use Rattle.linearize.specs.SlotsLaws.{slot_at_below}
pub use Rattle.places.specs.Prelude.{entry, hold_of}
pub use Rattle.piece_bits.specs.Prelude.{tables_same, HasShape, hold_at, fitting_stays, stays_declared}
pub use Rattle.map_expr.specs.Terms.{Term, uncounted}
pub use Rattle.map_checks.specs.Prelude.{array_of, lanes_in, holds_by}
pub use Rattle.map_any.specs.Inner.ArraySlots.{slots_in}
pub use Rattle.map_any.specs.Strategies.{AreRuns, IsStrategy}
pub use Rattle.map_any.specs.declared.arrays.ArraySlots.{ArraySlots}
pub use Rattle.places.specs.declared.piece.Hold.{Hold}
pub use Rattle.map_any.specs.declared.strategy.Strategy.{Strategy}
pub use Rattle.record_dim.specs.Prelude.{Leaf, leaves, kinds_of, Fields}
pub use Rattle.map_any.specs.AnyLaws.{length-leaf_cells}
pub use Rattle.layout_copy.specs.Costs.{piece_steps, piece_steps_at, round_steps, slot_run_steps, IsWay, MayMoveTo, copy_cost, leaf_sizes}
unfoldable pub use Rattle.layout_copy.specs.Costs.{steps_before}
pub use Rattle.layout_copy.specs.Copies.{AreAlike, refusing, refused_at, spot_or, IsCopied}
pub use Rattle.layout_copy.specs.Inner.CopiedRuns.{order_in, order_by, IsPieceMoved}
pub use Rattle.layout_copy.specs.OwnLaws.{staying_held, staying_kept}
pub use Rattle.layout_copy.specs.Inner.RowRuns.{AllTake}
pub use Rattle.std.proofs.lemmas.Grind.{common_steps}
