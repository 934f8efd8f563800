-- The lemmas that the search tries at goals with no answer of their own.
use Rattle.extents.proofs.Imports.{count_by, false_from_ne_true, fixed_positive, length-indices, length-map, length-take, list_any, moved_inside, moved_whole, power_more, product_divided, product_more, same_rank, slice_get, span_ordered, window_count, window_row}
use Rattle.std.proofs.lemmas.Grind.{common_steps}

pub ruleset steps = (common_steps, count_by, false_from_ne_true, fixed_positive, length-indices, length-map, length-take, list_any, moved_inside, moved_whole, power_more, product_divided, product_more, same_rank, slice_get, span_ordered, window_count, window_row)
