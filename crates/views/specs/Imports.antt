-- What this crate takes of others.
pub use Rattle.blobs.specs.Bits.{bit_in, bit_of, bits_of}
pub use Rattle.blobs.specs.Moves.{IsMoved, blocks}
unfoldable pub use Rattle.extents.specs.Indices.{indices}
pub use Rattle.extents.specs.declared.order.Order.{Order}
pub use Rattle.instrument.specs.Counters.{HasLeaves, HeatCounts, IsInside, LeafCounts, counted, counted_times, granules_in, granules_of, heat_counts, leaf_counts, next, no_counts, no_heat, warmed}
pub use Rattle.instrument.specs.Counters.{warmed_blob, warmed_times}
pub use Rattle.instrument.specs.WarmingLaws.{bytes-in_granules, inside-counted, length-warmed_blob}
pub use Rattle.instrument.specs.declared.counts.Counts.{Counts}
pub use Rattle.instrument.specs.declared.heat.Heat.{Heat as Heats}
pub use Rattle.instrument.specs.declared.heat.HeatFault.{HeatFault}
pub use Rattle.linearize.specs.Slots.{slot_at, slot_count}
pub use Rattle.map_any.specs.AnyLaws.{length-leaf_cells}
pub use Rattle.map_any.specs.ArrayRunLaws.{array_holds, run_other, run_row, runs_alike}
pub use Rattle.map_any.specs.Counters.{granule_of, has_count, is_counted}
pub use Rattle.map_any.specs.Inner.ArrayRuns.{IsArrayRun}
pub use Rattle.map_any.specs.Inner.ArraySlots.{slots_in}
pub use Rattle.map_any.specs.Maps.{extents_of, term_of_map}
pub use Rattle.map_any.specs.Strategies.{AreRuns}
pub use Rattle.map_any.specs.declared.arrays.ArraySlots.{ArraySlots}
pub use Rattle.map_checks.specs.Prelude.{IsBuiltTerm, IsTooBigFor, accepted, array_of, holds_by, holds_by_kind, holds_of, kinds_are, lanes_in, layout_by, layout_of, leaf_cells, leaf_cells_kinds}
pub use Rattle.map_checks.specs.Prelude.{length-holds, most_slots}
pub use Rattle.map_checks.specs.declared.fault.MakeMap.{MakeMap}
pub use Rattle.map_expr.specs.Checks.{bad_number}
pub use Rattle.map_expr.specs.Terms.{Aosoa, Count, Heat, Soa, Term, term_of, uncounted}
pub use Rattle.piece_bits.specs.Prelude.{AllSettled, AreLaid, AreMoved, AreSized, HasShape, IsBlock, IsNarrow, IsSettled, IsWithin64, declared, declared_table, fitting_stays, hold_at, kept}
pub use Rattle.piece_bits.specs.Prelude.{kept_again, kept_entry, kept_in, kind_at, low_64, low_same, moved_entry, moved_laid, own_sign_held, table_in, value_bits, wide_kept, with_entry, zeros}
pub use Rattle.piece_bits.specs.declared.mode.StoreMode.{StoreMode}
pub use Rattle.piece_bits.specs.declared.mode.StoreMode.TheVariants.{Strict, Wrap}
pub use Rattle.places.specs.Prelude.{IsLaidOut, IsPiece, Owner, decoded, digit, entry, full_holds, hold_of, image, is_hot, number, number_same, touched_same}
pub use Rattle.places.specs.declared.piece.Cell.{Cell}
pub use Rattle.places.specs.declared.piece.Hold.{Hold}
pub use Rattle.places.specs.declared.piece.Piece.{Piece}
pub use Rattle.record_dim.specs.Prelude.{Fields, IsDeclared, IsIn, Leaf, greatest_in, greatest_of, is_signed, kinds_of, least_in, least_of, leaves, schema_fields, width_of}
pub use Rattle.record_dim.specs.Std.{add-one, and_parts, ap, append-nil, append_assoc, arith, cases_Bool, cases_lt, cast_unsigned, div_ceil, div_ceil_times, drop_all, drop_more, enumerate_from}
pub use Rattle.record_dim.specs.Std.{flat_map, flat_map-append, flat_map-cons, fold-append, fold-map, get_or-drop, get_or-map, get_or-set_other, get_or-set_same, get_or-take, get_or_past, ints}
pub use Rattle.record_dim.specs.Std.{length-drop, length-map, length-replicate, length-set, length-take, map-range_with_len_more, mul_assoc, of_z-to_z, option_or, range_with_len, set-append_right}
pub use Rattle.record_dim.specs.Std.{subst, sum_by-cons, sum_by_push, sym, take_all, take_more, true≢false, w64, ⊎_elim, ◌∙◌}
pub use Rattle.record_dim.specs.declared.leaf_type.LeafType.{LeafType}
pub use Rattle.record_dim.specs.declared.leaf_type.LeafType.TheVariants.{Bool as Truth, U64}
pub use Rattle.std.specs.List.{fold, sum_by}
pub use Rattle.std.specs.Simd.Lanes.{Each1}
