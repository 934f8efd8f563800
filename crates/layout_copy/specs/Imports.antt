-- What this crate takes of others.
pub use Rattle.record_dim.specs.Std.{range_with_len, ap, subst, arith, length-map}
pub use Rattle.extents.specs.Indices.{indices}
pub use Rattle.extents.specs.declared.order.Order.{Order}
pub use Rattle.linearize.specs.Slots.{slot_count}
pub use Rattle.record_dim.specs.Prelude.{leaves, kinds_of, Fields}
pub use Rattle.blobs.specs.Moves.{blocks}
pub use Rattle.map_expr.specs.Terms.{Term}
pub use Rattle.map_checks.specs.Prelude.{layout_by, array_of, lanes_in}
pub use Rattle.map_any.specs.Strategies.{IsStrategy, AreRuns}
pub use Rattle.map_any.specs.declared.strategy.Strategy.{Strategy}
pub use Rattle.views.specs.Prelude.{blob_steps, size_of, MayMove, is_cut, piece_count, move_steps, Table, leaf_types_of, table_holds, IsInRun, stays_answer, rows_kept}
pub use Rattle.views.specs.Prelude.{StoreAnswer, AllStay, kept_or, kept_rows, IsTable, leaf_count_of, answer_of, kept_of, after_log, HasSlots, IsOwn, kind_at}
pub use Rattle.extents.specs.declared.order.Order.TheVariants.{Row}
pub use Rattle.places.specs.Prelude.{entry}
pub use Rattle.piece_bits.specs.Prelude.{HasShape, hold_at}
pub use Rattle.map_any.specs.Inner.ArraySlots.{slots_in}
