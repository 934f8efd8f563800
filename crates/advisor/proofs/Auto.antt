-- The lemmas that the search tries at goals with no answer of their own.
use Rattle.advisor.proofs.Advising.{advice_faulty, holds_known, pool_holds}
use Rattle.advisor.proofs.CurveLaws.{all_have_rows, digit_fits, digit_more, few_digits}
use Rattle.advisor.proofs.Imports.{All-push, after_log-none, cases_eq, flat_map, get_or-map, get_or_append_left, get_or_push, good_number, good_numbers, is_ok, le-leb, leaves, length-append, length-drop, length-map, length-take-le, length_push, list_any, list_any_more, map, map_more, map_push, take_all, take_more, take_more_set, touched_hot}
use Rattle.advisor.proofs.JudgedLaws.{told_refused}
use Rattle.advisor.proofs.Listing.{good_passed, none_behind}
use Rattle.advisor.proofs.PoolLaws.{all_behind, more_behind}
use Rattle.advisor.proofs.RuledLaws.{has_rule, rule_in}
use Rattle.advisor.proofs.SteadyLaws.{long_fits}
use Rattle.advisor.proofs.Tried.{trials_now}
use Rattle.advisor.proofs.TriedRuns.{all_to, leaf_read, leaf_tried, none_read, none_to, none_tried, run_read, run_tried}
use Rattle.advisor.proofs.WarmLaws.{cold_granules, warmed_more, warmed_none}
use Rattle.std.proofs.lemmas.Grind.{common_steps}

pub ruleset steps = (common_steps, advice_faulty, holds_known, pool_holds, all_have_rows, digit_fits, digit_more, few_digits, All-push, after_log-none, cases_eq, flat_map, get_or-map, get_or_append_left, get_or_push, good_number, good_numbers, is_ok, le-leb, leaves, length-append, length-drop, length-map, length-take-le, length_push, list_any, list_any_more, map, map_more, map_push, take_all, take_more, take_more_set, touched_hot, told_refused, good_passed, none_behind, all_behind, more_behind, has_rule, rule_in, long_fits, trials_now, all_to, leaf_read, leaf_tried, none_read, none_to, none_tried, run_read, run_tried, cold_granules, warmed_more, warmed_none)
