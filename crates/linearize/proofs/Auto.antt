-- The lemmas that the search tries at goals with no answer of their own.
use Rattle.linearize.proofs.Imports.{IsInside-reverse, IsRowSoFar-none, false≢true, row_end, same_index, slot_below, take_all}
use Rattle.linearize.proofs.MortonLemmas.{component_narrow, digits_from_log, front_more}
use Rattle.linearize.proofs.SlotLemmas.{column_turn, place_is, product_count, product_take_more, row_of_slot, same_length, stops_at}
use Rattle.std.proofs.lemmas.Grind.{common_steps}

pub ruleset steps = (common_steps, IsInside-reverse, IsRowSoFar-none, false≢true, row_end, same_index, slot_below, take_all, component_narrow, digits_from_log, front_more, column_turn, place_is, product_count, product_take_more, row_of_slot, same_length, stops_at)
