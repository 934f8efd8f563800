-- The lemmas of this crate that answers cite.
pub use Rattle.piece_bits.proofs.Imports.{bit_xor, arith, common_steps, ◌≡◌, ℕ, ◌+◌, List, ◌∷◌, drop, drop-cons, subst, drop_all, PieceRule, Carries, ◌≤◌, ◌*◌, ◌%◌, ◌^◌, negsuc, to_z, of_z, nat_abs, to_z-of_z, pow_mono, [], sym, IsRowPath, Walk, ap, ◌∙◌, int_min, int_max, map, ◌+ℤ◌, ◌*ℤ◌, get_or, zip2, pos, rules, FitsSigned, w64, SFits, w128, IsWithin64, ◌<◌, length, refl, ◌/◌, get_or_read, bit_at-lt, number, bit_of, bit_in, byte_of, scattered_pieces, spots_of, bit_at_spot, IsNext, read_next, get_or_default, IsWithin, AreWritten, within_same, write_next, pow_pos, morton_line, mod-eq_of_lt, pow-lt, ◌≢◌, bit_and, and_mask, Scattered, HasStart, ShortRule, Spread, IfSome_then, slice_get_within, ints, ones_of, decoded, byte_and_bit, bit_at, digit, number_lt, digit_lt}
pub use Rattle.piece_bits.proofs.FieldValues.{moved_field, xored_half}
pub use Rattle.piece_bits.proofs.Together.{rules_join}
pub use Rattle.piece_bits.proofs.Remainders.{low_of, above_of}
pub use Rattle.piece_bits.proofs.Ways.{list_of_two, column_path, digit_path, plain_path, block_path}
pub use Rattle.piece_bits.proofs.InPlace.{mapped, IsReplaced, beside}
pub use Rattle.piece_bits.proofs.Puts.{even_place, put_more, room_at}
pub use Rattle.piece_bits.proofs.Numbers.{number_within, one_of_eight, same_number, one_more}
pub use Rattle.piece_bits.proofs.PieceBytes.{byte_next, byte_within, byte_bound}
pub use Rattle.piece_bits.proofs.Places.{masked_slot, slots_before}
pub use Rattle.piece_bits.proofs.StretchLaws.{twos_divide, shifted, AreSteps, steps_stretch, plain_steps, block_steps, blocks_steps, column_steps, digit_steps}
pub use Rattle.piece_bits.proofs.AlongLaws.{short_of}
pub use Rattle.piece_bits.proofs.StandLaws.{field_stand, field_together, scattered_stand, carried_stand, turned_stand, whole_stand, whole_together}
pub use Rattle.piece_bits.proofs.Values.{encoded}
pub use Rattle.piece_bits.proofs.WideLaws.{low_field, high_fits, high_bytes, low_bytes}
pub use Rattle.piece_bits.proofs.Distances.{IsNoFarther}
pub use Rattle.piece_bits.proofs.Wholes.{whole_some, whole_few}
