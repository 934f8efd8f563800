-- The lemmas of this crate that answers cite.
pub use Rattle.map_checks.proofs.Imports.{◌≡◌, ◌+◌, ◌%◌, ◌^◌, ◌<◌, ◌≤◌, ℕ, ◌∷◌, [], ◌∙◌, List, length, map, replicate, slice_index, sym, ap, subst, arith, length-append, length-map, map_push, replicate_more, All-cons, All-nil, sum_by-cons, row_at, PieceRule, Owner, in_rows, Cell, Hold, Rule, IsArray, IsRuleOf, each_push, Err, bit_aos, widths_in, narrow_holds, IsTooBig, schema_fields, cell_widths, bit_soa, take, rules, byte_count, common_steps, Bool, Fields, slot_count, aosoa, aos_layout, soa_layout, Term, term_of, MapExpr, IsTooBigFor, orders_of, IsPlanOf, ◌++◌, true, false, get_or, not, count_by, count_by_more_yes, count_by_more_no, rank_first, rank_rest, rank_first_in, rank_rest_in}
pub use Rattle.map_checks.proofs.RuleLaws.{rule_by_rows}
pub use Rattle.map_checks.proofs.OrderLaws.{map_constant, planned_orders}
pub use Rattle.map_checks.proofs.ArrayLaws.{array_rule, base_arrays}
pub use Rattle.map_checks.proofs.Faults.{too_big_of, handed_on}
pub use Rattle.map_checks.proofs.Limits.{over}
pub use Rattle.map_checks.proofs.PlanLaws.{base_planned, over_under, over_beside, holds_first, rules_first, rules_rest, over_all, planned}
pub use Rattle.map_checks.proofs.JoinRuleLaws.{next_is, within, slice_is}
pub use Rattle.map_checks.proofs.BytePlanLaws.{swap_bytes, swap_planned, join_planned}
pub use Rattle.map_checks.proofs.SplitRules.{more_first, more_rest}
