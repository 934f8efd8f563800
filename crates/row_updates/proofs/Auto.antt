-- The lemmas that the search tries at goals with no answer of their own.
use Rattle.row_updates.proofs.Imports.{All-get_or, after_log-none, append-nil, count_by-le-length, length-set, log_as_tried, raised_same, safe_front, set-get_or, take_all, take_more, take_more_set, to_z-of_z, updated_as_tried, within_front}
use Rattle.row_updates.proofs.Indexed.{index_read, line_put}
use Rattle.row_updates.proofs.Logs.{lent_log}
use Rattle.row_updates.proofs.Rows.{none_rows, value_tested, whole_count}
use Rattle.row_updates.proofs.RunRows.{run_more}
use Rattle.row_updates.proofs.Taken.{stored_front, told_some}
use Rattle.std.proofs.lemmas.Grind.{common_steps}

pub ruleset steps = (All-get_or, after_log-none, append-nil, count_by-le-length, length-set, log_as_tried, raised_same, safe_front, set-get_or, take_all, take_more, take_more_set, to_z-of_z, updated_as_tried, within_front, index_read, line_put, lent_log, none_rows, value_tested, whole_count, run_more, stored_front, told_some, common_steps)
