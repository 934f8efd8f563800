-- The lemmas that the search tries at goals with no answer of their own.
use Rattle.piece_bits.proofs.Distances.{between}
use Rattle.piece_bits.proofs.Imports.{bit_at-lt, bit_in_lt, code_low, congruent_same, digit_lt, fold_next, folded_far, leb-true, length-zip2, low_congruent, mod-eq_of_lt, next_piece, number_lt, of_z, ones_of, pow-lt, same_sign, shortened_kept, to_z, to_z-of_z}
use Rattle.piece_bits.proofs.InPlace.{zipped}
use Rattle.piece_bits.proofs.Numbers.{eight_more}
use Rattle.piece_bits.proofs.Places.{byte_steps, masked_slot}
use Rattle.piece_bits.proofs.Puts.{even_place, room_left}
use Rattle.piece_bits.proofs.StretchLaws.{even_blocks, sixteen}
use Rattle.piece_bits.proofs.Values.{by_sign, held_negsuc}
use Rattle.piece_bits.proofs.Wholes.{whole_few, whole_some}
use Rattle.std.proofs.lemmas.Grind.{common_steps}

pub ruleset steps = (common_steps, between, bit_at-lt, bit_in_lt, code_low, congruent_same, digit_lt, fold_next, folded_far, leb-true, length-zip2, low_congruent, mod-eq_of_lt, next_piece, number_lt, of_z, ones_of, pow-lt, same_sign, shortened_kept, to_z, to_z-of_z, zipped, eight_more, byte_steps, masked_slot, even_place, room_left, even_blocks, sixteen, by_sign, held_negsuc, whole_few, whole_some)
