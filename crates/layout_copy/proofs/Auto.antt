-- The lemmas that the search tries at goals with no answer of their own.
use Rattle.layout_copy.proofs.CostLaws.{leaf_sum}
use Rattle.layout_copy.proofs.Imports.{after_log-none, common_steps, get_or, is_ok, leaves, length-map, nothing_after, rows_after, same_slots, to_z-of_z, told_same}
use Rattle.layout_copy.proofs.Pieces.{all_below, all_steps, has_slots, leaf_moved, slots_are}
use Rattle.layout_copy.proofs.RowRuns.{alike_after}
use Rattle.layout_copy.proofs.Rows.{leaf_read, leaf_refused, none_copied, read_more, reads_after}

pub ruleset steps = (leaf_sum, after_log-none, common_steps, get_or, is_ok, leaves, length-map, nothing_after, rows_after, same_slots, to_z-of_z, told_same, all_below, all_steps, has_slots, leaf_moved, slots_are, alike_after, leaf_read, leaf_refused, none_copied, read_more, reads_after)
