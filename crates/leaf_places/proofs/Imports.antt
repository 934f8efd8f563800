-- What the proofs of this crate speak of.
pub use Rattle.record_dim.specs.Std.{◌≡◌, ℕ, ◌+◌, ◌*◌, ◌<◌, ◌≤◌, Bool, Option, None, Some, IsSomeAnd, false, List, length, sym, ap, ◌∙◌, subst, ⊎_elim, arith, slice_index, cases_lt, div-add-mod', mod-eq_of_lt, div-eq_of_lt, div_self, mod_self, ℤ, [], get_or, map, length-map, get_or-map, get_or_past, length-map-range_with_len, get_or-map-range_with_len, slice_get, get_or_from_slice_get, zero, suc, ◌-◌, ◌/◌, ◌%◌, true, ◌∷◌, refl, get_or-append_right, common_steps, take}
pub use Rattle.places.specs.Prelude.{Owner, Bit, owner_at, IsLaidOut, IsLocated, Pad, number, digit, decoded, entry, bit_held, image, number_same, width_at, within_blobs}
pub use Rattle.places.specs.declared.piece.Piece.{Piece}
pub use Rattle.piece_bits.specs.Prelude.{spots_of, spot_at, spot_count, spot_owned, held, same_sign, stays_settled, Stays, hold_at, one_at, short_pieces, start_in, IsShortIn, length-spots_in, next_piece, slot_by, walks_in_blocks, turned_pieces, word_width, IsNext, nowhere}
pub use Rattle.leaf_places.specs.Spots.{bit_by, first_by, spot_by, first_bit, IsForm}
pub use Rattle.leaf_places.specs.Inner.Search.{place_in, IsBegun, IsSought, IsWay, StandAlong, StandsAt}
pub use Rattle.leaf_places.specs.declared.grouped.Grouped.{Grouped}
pub use Rattle.leaf_places.specs.declared.sought.Sought.{Sought}
pub use Rattle.record_dim.specs.Prelude.{is_signed}
pub use Rattle.record_dim.specs.declared.leaf_type.LeafType.{LeafType}
pub use Rattle.places.specs.declared.piece.Hold.{Hold}
pub use Rattle.blobs.specs.Bits.{bit_of, bits_of}
pub use Rattle.piece_bits.specs.declared.mode.StoreMode.{StoreMode}
pub use Rattle.extents.specs.Indices.{indices}
pub use Rattle.places.specs.declared.piece.Cell.{Cell}
pub use Rattle.map_checks.specs.Prelude.{leaf_cells}
pub use Rattle.map_any.specs.AnyLaws.{length-leaf_cells}
pub use Rattle.views.proofs.KeptLaws.{kind_count}
pub use Rattle.views.specs.Prelude.{Table, leaf_count_of, leaf_type_of, leaf_types_of, owners_of, table_holds}
pub use Rattle.leaf_places.specs.Places.{ArePlacesOf, IsDirect}
pub use Rattle.leaf_places.specs.declared.told.Places.{Places}
pub use Rattle.places.specs.declared.rule.PieceRule.{PieceRule}
pub use Rattle.blobs.specs.Turned.{turned_place}
pub use Rattle.piece_bits.specs.declared.field.Field.{Field}
pub use Rattle.piece_bits.specs.declared.short.ShortRule.{ShortRule}
pub use Rattle.piece_bits.specs.declared.walk.Walk.{Walk}
pub use Rattle.piece_bits.specs.declared.word.Word.{Word}
pub use Rattle.leaf_places.specs.Inner.Placing.{is_field, turns, AreGroupsOf}
pub use Rattle.leaf_places.specs.declared.groups.Groups.{Groups}
pub use Rattle.record_dim.specs.declared.leaf_type.LeafType.TheVariants.{Bool as Truth}
pub use Rattle.piece_bits.specs.declared.word.Word.TheVariants.{Scattered}
