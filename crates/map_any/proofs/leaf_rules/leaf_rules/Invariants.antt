-- the rules so far
use Rattle.map_any.proofs.Imports.{◌≡◌, true, false, length, get_or, schema_fields, kinds_of, kind_in, hold_in, IsLeafRule, IsWideIn, EachWith, IsSameRule, leads}
use Rattle.map_any.proofs.leaf_rules.leaf_rules.Given as goal

abbrev pub invariant-loop-leaf : goal.invariant-loop-leaf
invariant-loop-leaf l = record {
  each : length l.leaves ≡ l.leaf;
  same : EachWith (λ k leaf. IsSameRule (get_or l.rules k leaf.rule) leaf.rule) l.leaves;
  whole : EachWith (λ k leaf. IsLeafRule (kind_in (kinds_of (schema_fields l.schema)) k) l.extents (hold_in l.holds k) leaf) l.leaves;
  wide : EachWith (λ k leaf. IsWideIn l.lengths leaf) l.leaves;
  uncounted : l.counted ≡ true → EachWith (λ k leaf. leads leaf.short.walk ≡ false) l.leaves;
}
