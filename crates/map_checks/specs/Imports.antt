-- What this crate takes of others.
pub use Rattle.extents.specs.Indices.{IsInside}
unfoldable pub use Rattle.extents.specs.Indices.{indices}
pub use Rattle.extents.specs.declared.order.Order.{Order}
pub use Rattle.extents.specs.declared.order.Order.TheVariants.{Row}
pub use Rattle.linearize.specs.Slots.{index_at, slot_at, slot_count, slot_of}
unfoldable pub use Rattle.linearize.specs.Slots.{row_at}
pub use Rattle.linearize.specs.SlotsLaws.{row_at-slot_at, slot_at-row_at, slot_at_below, slot_at_by_rows}
pub use Rattle.map_aos.specs.AosLaws.{aos_laws}
pub use Rattle.map_aosoa.specs.AosoaLaws.{aosoa_laws}
pub use Rattle.map_bits.specs.BitLaws.{bit_aos_laws, bit_soa_laws}
pub use Rattle.map_bits.specs.Bits.{has_bad_width}
pub use Rattle.map_bits.specs.NarrowLaws.{length-narrow, narrow_each, narrow_low, narrow_wide}
pub use Rattle.map_bytes.specs.BytesplitLaws.{bytesplit_laws}
pub use Rattle.map_bytes.specs.Cells.{byte_cells_of, byte_count, changed, differ}
pub use Rattle.map_bytes.specs.ChangeLaws.{length-changed}
pub use Rattle.map_bytes.specs.Cuts.{swapped, swapped_rules}
pub use Rattle.map_bytes.specs.FullLaws.{differ_none}
pub use Rattle.map_bytes.specs.SwapLaws.{byteswap_laws}
pub use Rattle.map_expr.specs.Checks.{bad_granule, bad_lanes, bad_number, bad_widths, checked, is_width}
pub use Rattle.map_expr.specs.Terms.{Aos, Aosoa, BitAos, BitSoa, Bytesplit, Byteswap, Change, Count, Heat, Named, Soa, Split, Term, term_of}
pub use Rattle.map_expr.specs.declared.check.BadMapping.{BadMapping}
pub use Rattle.map_expr.specs.declared.check.BadMapping.TheVariants.{Field, Lanes, NotFull, Side, Width}
pub use Rattle.map_expr.specs.declared.widths.FieldWidth.{FieldWidth}
pub use Rattle.map_soa.specs.SoaLaws.{soa_laws}
pub use Rattle.map_split.specs.Inner.Shifts.{shifted_rule}
pub use Rattle.map_split.specs.Sides.{is_one_sided, merged, rank_first, rank_rest}
pub use Rattle.map_split.specs.SidesLaws.{count-mapped, length-merged, map-merged, merged_first, merged_rest, number_first, number_rest, rank_first_in, rank_rest_in}
pub use Rattle.map_split.specs.SplitLaws.{split_laws}
pub use Rattle.places.specs.Prelude.{AreRulesOf, Back, Bit, IsBitOf, IsDense, IsLaidOut, IsLocated, IsTooBig, Owner, aos_layout, aosoa, bit_aos, bit_in_row, bit_soa, bytesplit, byteswap, full_holds}
pub use Rattle.places.specs.Prelude.{hold_of, in_rows, laid_out, lays_out, length-full, narrow_holds, pieces_in, relabel_lays_out, relabel_located, renamed, soa_layout, split, widths_in, widths_of}
pub use Rattle.places.specs.declared.mapping.NewMapping.{NewMapping}
pub use Rattle.places.specs.declared.piece.Cell.{Cell}
pub use Rattle.places.specs.declared.piece.Hold.{Hold}
pub use Rattle.places.specs.declared.piece.Piece.{Piece}
pub use Rattle.places.specs.declared.rule.PieceRule.{PieceRule}
pub use Rattle.record_dim.specs.Prelude.{Fields, IsUnder, is_under, kind_number, kinds_of, leaves, leaves_before, schema_fields, width_of}
pub use Rattle.record_dim.specs.Std.{All-map, and_parts, ap, arith, cases_lt, enumerate_from, flat_map, get_or-append_seam, get_or-map, get_or_append_left, get_or_from_slice_get, leb-true}
pub use Rattle.record_dim.specs.Std.{length-append, length-filter, length-map, length-take-le, list_all, list_any, map-map, map_push, option_or, or_from, or_parts, sum_by-cons, sym, take_more, ×_prop}
pub use Rattle.record_dim.specs.Std.{◌∙◌}
pub use Rattle.record_dim.specs.declared.leaf_type.LeafType.{LeafType}
pub use Rattle.record_dim.specs.declared.leaf_type.LeafType.TheVariants.{Bool as Truth, U8}
pub use Rattle.record_dim.specs.declared.path.PathStep.{PathStep}
pub use Rattle.std.specs.List.{count_by, fold, sum}
