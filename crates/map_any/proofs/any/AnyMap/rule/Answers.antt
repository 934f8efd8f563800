use Rattle.map_any.proofs.LeafLaws.{rule_same}
use Rattle.map_any.proofs.any.AnyMap.rule.Goals as goal

pub returns : goal.returns
returns c = rule_same _ _ _ _ c.leaf_rule.result.now.rule c.copy.result c.copy.ensures c.leaf_rule.ensures.places
