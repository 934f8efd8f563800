-- the rules so far, and how many of each side
use Rattle.map_checks.proofs.Imports.{◌≡◌, length, EachWith, IsSplitRule, rank_first, rank_rest}
use Rattle.map_checks.proofs.split_rules.split_rules.Given as goal

abbrev pub invariant-loop-is_first : goal.invariant-loop-is_first
invariant-loop-is_first l = record {
  each : length l.rules ≡ l.is_first-index;
  split : EachWith (IsSplitRule l.side l.by l.first l.rest) l.rules;
  first_is : l.from_first ≡ rank_first l.side l.is_first-index;
  rest_is : l.from_rest ≡ rank_rest l.side l.is_first-index;
}
