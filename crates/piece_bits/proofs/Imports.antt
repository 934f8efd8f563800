-- What the proofs of this crate speak of.
pub use Rattle.piece_bits.specs.Imports.{Order, indices, Hold, PieceRule, IsIn, bit_of, bit_in, Piece, Truth, U8, U16, I8, Row, Col, Morton, slot_at, interleaved, slot_at_by_rows, slot_in_line, slot_by_columns, slot_by_digits, bit_read, byte_and_bit, turned_place}
pub use Rattle.record_dim.specs.Std.{◌≡◌, ◌≤ℤ◌, bit_or, ℕ, ◌≤◌, ◌^◌, List, length, sym, ap, subst, ◌+◌, ◌-◌, ◌%◌, ◌<◌, ◌*◌, Bool, true, false, bit_xor, pos, ◌-ℤ◌, ◌∙◌, ⊎_elim, arith, ◌≢◌, zero, suc, [], ◌∷◌, ◌++◌, get_or, set, map, take, ℤ, refl, ◌/◌, All, bit_and, negsuc, w64, min, lit<, append_assoc, ◌⊎◌, rules, FitsSigned, SFits, Some, slice_index, ◌+ℤ◌, to_z, of_z, ◌*ℤ◌, fold, drop, drop-cons, common_steps, ints, to_z-of_z, pow_pos, xor_block, and_mask, mod_below, shr_split, shr-shr, pow-add, div-mul-add, mod-mul-add, div-add-mod', cases_lt, cases_eq, leb-true, mod-eq_of_lt, mod-eq-sub-mod, pow-le-pow_right, div-lt_iff_lt-mul, div-mul-le_self, mod-lt, mul-le-mul_right, div-one, mod-one, mul_assoc, zip2, Each2, map-append, length-map, get_or-map, get_or-set_other, take_more, take_more_set, take_all, length-set, get_or-set_same, same_lists, get_or_read, get_or_default, drop_all, length-zip2, get_or-zip2, bit_at-lt, bit_at-zero, bit_at_above, bit_at_cat_low, bit_at-trailing_zeros, same_from_bits, All-head, All-cons, All-tail, bit_at, trailing_zeros, w128, int_min, int_max, flat_map, range_with_len, pow-lt, pow_mono, not, int_le, IfSome_then, slice_get_within, int_cmp, is_le, is_some_and, nat_abs, le_or_l, le_or_r}
pub use Rattle.std.specs.List.{count_by}
pub use Rattle.places.specs.Prelude.{decoded, number, digit, decoded_low, decoded_high, half_of, number_lt, decoded_in, number_bits, number_pos, number_negsuc, number_same, bit_number, digit_lt, ones_of, IsLocated, IsPiece, owners_in, begins_fit, begin_in, piece_in, pieces_in, Owner, field, range_split, located, pieces_weaker}
pub use Rattle.linearize.specs.ApartLaws.{line_same, column_on, columns_apart, morton_line}
pub use Rattle.blobs.specs.FieldsLaws.{field_read, field_put, window_written}
pub use Rattle.piece_bits.specs.declared.field.Field.{Field}
pub use Rattle.piece_bits.specs.declared.word.Word.{Word}
pub use Rattle.piece_bits.specs.Inner.Alongs.{IsAlong}
pub use Rattle.piece_bits.specs.RowPaths.{IsRowPath}
pub use Rattle.piece_bits.specs.Shorts.{StandsFor, IsHeldBy, IsShortOf, place_by, pieces_by, slot_in, start_in, HasStart}
pub use Rattle.piece_bits.specs.Inner.Stands.{IsStandOf, IsStandFor, IsWhole, IsTurned, IsByteAlong, IsTurnedByte, AreTurned, IsScatteredByte, AreScattered, IsInBytes, IsInBits}
pub use Rattle.piece_bits.specs.declared.path.Path.{Path}
pub use Rattle.piece_bits.specs.declared.short.ShortRule.{ShortRule}
pub use Rattle.piece_bits.specs.declared.stand.Stand.{Stand}
pub use Rattle.piece_bits.specs.declared.walk.Walk.{Walk}
pub use Rattle.piece_bits.specs.Words.{half_range, word_place, word_signed, word_width, IsPlaceWord, word_bit, turned_pieces}
pub use Rattle.piece_bits.specs.Stretches.{stretch_place, IsStretch, AreEven}
pub use Rattle.piece_bits.specs.declared.stretch.Stretch.{Stretch}
pub use Rattle.piece_bits.specs.Lows.{low_64, IsWithin64}
pub use Rattle.piece_bits.specs.Stretched.{number_at, stretched_at, HaveRead, StretchFits, IsWordPut, ArePut, HaveEight}
pub use Rattle.piece_bits.specs.Inner.Scattered.{byte_of, scattered_pieces}
pub use Rattle.piece_bits.specs.Inner.Spots.{spots_of, IsWithin, bit_at_spot, spot_at}
pub use Rattle.piece_bits.specs.SpotsOfLaws.{IsNext, nowhere, next_piece, read_next}
pub use Rattle.piece_bits.specs.declared.stretch.Spread.{Spread}
pub use Rattle.piece_bits.specs.declared.stretch.Spread.TheVariants.{Even, Digits, Blocks}
pub use Rattle.piece_bits.specs.CongruenceLaws.{digits_negsuc, low_congruent, congruent_same}
pub use Rattle.piece_bits.specs.declared.word.Word.TheVariants.{Scattered, TurnedU32, TurnedU64, TurnedI32, TurnedI64, TurnedU16, TurnedI16}
pub use Rattle.piece_bits.specs.LowBits.{kept, held}
pub use Rattle.piece_bits.specs.Inner.Far.{shortened}
pub use Rattle.piece_bits.specs.Inner.Joins.{Carries, AreJoined}
pub use Rattle.piece_bits.specs.Walks.{leads, walks_in_blocks, slot_by}
pub use Rattle.piece_bits.specs.EntryLaws.{image_of_table, settled_after, same_sign}
pub use Rattle.piece_bits.specs.ImageLaws.{image_table}
pub use Rattle.piece_bits.specs.KeptTableLaws.{declared_with_entry}
pub use Rattle.piece_bits.specs.FarLaws.{fold_next, folded_far, shortened_kept}
pub use Rattle.piece_bits.specs.WritesLaws.{AreWritten, within_same, write_next}
pub use Rattle.piece_bits.specs.NumberTypes.{compares}
pub use Rattle.piece_bits.specs.CellsLaws.{IsCell, hold_is, some_bits, few_bits, bit_count, apart, written_table, written_padding, still_laid, within, read_small, read_entry_is, bit_in_lt}
pub use Rattle.piece_bits.specs.OnePieceLaws.{one_count, one_within, one_table, one_laid, one_width, one_entry}
pub use Rattle.piece_bits.specs.LowsLaws.{code_low}
pub use Rattle.piece_bits.specs.Spreads.{offset_by, spread_power}
pub use Rattle.piece_bits.specs.Inner.Distances.{far_of}
