-- The lemmas that the search tries at goals with no answer of their own.
use Rattle.map_checks.proofs.ArrayLaws.{base_arrays}
use Rattle.map_checks.proofs.BytePlanLaws.{join_alone, join_each, join_ordered, narrow_beside, narrow_under, over_join, over_swap, swap_held, swap_ordered}
use Rattle.map_checks.proofs.Faults.{handed, handed_on, no_width}
use Rattle.map_checks.proofs.Imports.{append-nil, below_more, cells_first, cells_rest, count_by, differ_none, each_push, flat_map, flat_map-append, get_or-set_other, get_or-set_same, get_or_default, good_widths, leaf_cells_more, leaves, leaves_before, length-append, length-full, length-holds, length-map, length-set, take_more, true≢false}
use Rattle.map_checks.proofs.JoinRuleLaws.{all_those, few_bytes, length-those, slice_is, some_bytes}
use Rattle.map_checks.proofs.LastEntry.{last_counts}
use Rattle.map_checks.proofs.OrderLaws.{orders_changed}
use Rattle.map_checks.proofs.PlanLaws.{base_planned, holds_rest, rules_rest}
use Rattle.std.proofs.lemmas.Grind.{common_steps}

pub ruleset steps = (common_steps, base_arrays, join_alone, join_each, join_ordered, narrow_beside, narrow_under, over_join, over_swap, swap_held, swap_ordered, handed, handed_on, no_width, append-nil, below_more, cells_first, cells_rest, count_by, differ_none, each_push, flat_map, flat_map-append, get_or-set_other, get_or-set_same, get_or_default, good_widths, leaf_cells_more, leaves, leaves_before, length-append, length-full, length-holds, length-map, length-set, take_more, true≢false, all_those, few_bytes, length-those, slice_is, some_bytes, last_counts, orders_changed, base_planned, holds_rest, rules_rest)
