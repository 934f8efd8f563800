-- What this crate takes of others.
unfoldable pub use Rattle.extents.specs.Indices.{indices}
pub use Rattle.extents.specs.declared.order.Order.{Order}
pub use Rattle.instrument.specs.Counters.{HeatCounts, IsInside, granules_in, granules_of, heat_counts, heated_by, no_heat}
pub use Rattle.linearize.specs.Slots.{index_at, slot_at, slot_count}
unfoldable pub use Rattle.linearize.specs.Slots.{interleaved, row_at}
pub use Rattle.map_checks.specs.Prelude.{IsBuiltTerm, IsRuleOf, IsRuled, accepted, cells_beside, cells_under, holds_by, holds_of, layout_by, layout_of, leaf_cells, most_slots}
pub use Rattle.map_checks.specs.declared.fault.MakeMap.{MakeMap}
pub use Rattle.map_expr.specs.Terms.{Bytesplit, Byteswap, Change, Count, Heat, Named, Split, Term, depth_of, term_of, uncounted}
pub use Rattle.map_expr.specs.declared.check.BadMapping.{BadMapping}
pub use Rattle.piece_bits.specs.Prelude.{hold_at, kind_at, low_64, stays_declared}
pub use Rattle.piece_bits.specs.declared.mode.StoreMode.{StoreMode}
pub use Rattle.places.specs.Prelude.{Bit, IsBitOf, IsLaidOut, Owner, Pad, begin_in, is_bit_of, is_hot, is_in_granule, numbers_of, owner_at, piece_in, recelled, renamed, split}
pub use Rattle.places.specs.declared.piece.Cell.{Cell}
pub use Rattle.places.specs.declared.piece.Hold.{Hold}
pub use Rattle.places.specs.declared.piece.Piece.{Piece}
pub use Rattle.places.specs.declared.rule.PieceRule.{PieceRule}
pub use Rattle.record_dim.specs.Prelude.{Fields, IsRecord, Record, fields_of, kinds_of, leaves, names_of, schema_fields, tree_of}
pub use Rattle.record_dim.specs.Std.{Any-from_list_any, and_from, ap, arith, bit_at, drop-map, eq-eqb, find, flat_map, fun_ext, get_or-drop, get_or-take, get_or_default, int_eq, length-map}
pub use Rattle.record_dim.specs.Std.{length-take, list_all, list_any, list_any_at, range_with_len, sum_by-append, sum_by-cons, sym, take-map, true≢false, ◌∙◌}
pub use Rattle.record_dim.specs.declared.leaf_type.LeafType.{LeafType}
pub use Rattle.record_dim.specs.declared.path.PathStep.{PathStep}
pub use Rattle.record_dim.specs.declared.path.PathStep.TheVariants.{Name}
pub use Rattle.views.specs.Prelude.{Access, HasGranules, Read, Table, after_log, all_accesses, blob_lengths, column, in_leaf, is_between, leaf_count_of, leaf_type_of, leaf_types_of, raised}
pub use Rattle.views.specs.Prelude.{row_accesses, store_answer}
pub use Rattle.views.specs.declared.fault.StoreFault.{StoreFault}
