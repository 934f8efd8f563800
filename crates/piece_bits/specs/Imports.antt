-- What this crate takes of others.
pub use Rattle.blobs.specs.Bits.{IsWholeBytes, bit_in, bit_of, bits_of}
pub use Rattle.blobs.specs.BytesLaws.{bit_of_byte, bit_of_part, bit_read, byte_and_bit}
pub use Rattle.blobs.specs.Moves.{IsMoved}
pub use Rattle.blobs.specs.Turned.{IsTurned, turned_place}
unfoldable pub use Rattle.extents.specs.Indices.{indices}
pub use Rattle.extents.specs.declared.order.Order.{Order}
pub use Rattle.extents.specs.declared.order.Order.TheVariants.{Col, Morton, Row}
pub use Rattle.linearize.specs.LinesLaws.{column_narrow, line_narrow, slot_by_columns, slot_by_digits, slot_in_line}
pub use Rattle.linearize.specs.Slots.{slot_at, slot_count}
unfoldable pub use Rattle.linearize.specs.Slots.{interleaved}
pub use Rattle.linearize.specs.SlotsLaws.{slot_at_below, slot_at_by_rows}
pub use Rattle.places.specs.Prelude.{Bit, IsBitOf, IsImage, IsLaidOut, IsLocated, Owner, Pad, bit_digits, bit_held, bit_number, bit_owned, decoded, decoded_digits, decoded_high, decoded_in}
pub use Rattle.places.specs.Prelude.{decoded_low, digit, digit_lt, entry, field, field_at, found_owned, half_of, image, length-field, number, number_bits, number_complement, number_lt, number_same}
pub use Rattle.places.specs.Prelude.{number_split, owned_is, owner_at, owners_in, pieces_in, reading, table_of, width_at}
pub use Rattle.places.specs.declared.piece.Hold.{Hold}
pub use Rattle.places.specs.declared.piece.Piece.{Piece}
pub use Rattle.places.specs.declared.rule.PieceRule.{PieceRule}
pub use Rattle.record_dim.specs.Prelude.{IsDeclared, IsIn, greatest_in, is_signed, least_in, width_of}
pub use Rattle.record_dim.specs.Std.{Each1, Each1-weaker, Each2, Each2-of, ap, arith, bit_at, bit_at-lt, cases_eq, cases_lt, cast_signed, cast_unsigned, enumerate_from, ext_get_or}
pub use Rattle.record_dim.specs.Std.{fits_signed_from_abs, flat_map, flat_map-append, get_or-append_right, get_or-enumerate_from, get_or-flat_map, get_or-map, get_or-map-range_with_len}
pub use Rattle.record_dim.specs.Std.{get_or-replicate, get_or-set_other, get_or-set_same, get_or_from_slice_get, inl, inr, int_eq, ints, length-append, length-enumerate_from, length-map}
pub use Rattle.record_dim.specs.Std.{length-map-range_with_len, length-replicate, length-set, map-append, map-set, mod-eq_of_lt, mod-mod-pow, mod_low, mul-le-mul, mul-le-mul_right, mul_comm}
pub use Rattle.record_dim.specs.Std.{nat_tests, of_z, pow-add, pow_mono, pow_pos, range_with_len, rules, set-get_or, shl_whole, subst, sym, take-append-drop, take_more, to_z, to_z-of_z}
pub use Rattle.record_dim.specs.Std.{unsigned_abs-mul, w64, ⊎_elim, ◌∙◌}
pub use Rattle.record_dim.specs.declared.leaf_type.LeafType.{LeafType}
pub use Rattle.record_dim.specs.declared.leaf_type.LeafType.TheVariants.{Bool as Truth, I8, U16, U8}
pub use Rattle.std.specs.Int.{int_max, int_min}
pub use Rattle.std.specs.Simd.Lanes.{zip2}
