-- What the proofs of this crate speak of.
pub use Rattle.record_dim.specs.Std.{◌≡◌, ℕ, ◌+◌, ◌-◌, ◌*◌, ◌/◌, ◌%◌, ◌^◌, ◌<◌, ◌≤◌, List, [], ◌∷◌, length, sum_by, replicate, get_or, slice_index, take, refl, sym, ap, ◌∙◌, subst, arith, zero, suc, ⊎_elim, ◌++◌, map, length-append, Err, rules, mul-le, get_or-map, get_or_append_left, length-map, take_all, get_or-append-add, length-enumerate_from, get_or-enumerate_from, length-map-range_with_len, get_or-map-range_with_len, map-range_with_len_more, sum_by_more, sum_by-take-le, sum_by-cons, flat_map, range_with_len, enumerate_from, sum, cases_lt, IsErrOf, common_steps}
pub use Rattle.places.specs.Prelude.{Owner, Pad, Bit, owner_at, cells_of, field, array, bit_soa, fields, padded_to, bit_aos, IsLocated, IsLaidOut, within, field_at, length-field, length-parts, slot_at, up, length-padded, one_piece, widths_in, IsTooBig, narrow_holds, begins_fit, one_lane, not_dense}
pub use Rattle.places.specs.declared.piece.Hold.{Hold}
pub use Rattle.places.specs.declared.piece.Piece.{Piece}
pub use Rattle.places.specs.declared.piece.Cell.{Cell}
pub use Rattle.places.specs.declared.mapping.NewMapping.TheVariants.{TooBig}
pub use Rattle.map_bits.specs.Bits.{padded_array, LieInBits, packed_slots, AreHolds}
pub use Rattle.map_bits.specs.declared.part.Part.{Part}
pub use Rattle.map_bits.specs.NarrowLaws.{kept_are, narrow_more}
pub use Rattle.map_bits.specs.BitLaws.{bit_aos_laws, bit_soa_laws}
