-- What a mapping with its rules lays out, and the rule of each of its cells.
use Rattle.advisor.proofs.Imports.{◌≡◌, ℕ, ◌<◌, List, length, map, get_or, subst, sym, arith, length-map, schema_fields, Owner, Hold, term_of, layout_of, IsRuleOf, Rule, RuledMap}

abbrev pub layout_in : RuledMap → List (List Owner)
layout_in m = let c = m.mapping in layout_of (term_of c.expr) c.extents (schema_fields c.schema) c.cells.items

abbrev pub widths_in : RuledMap → List ℕ
widths_in m = map (λ (h : Hold). h.width) m.mapping.plan.holds

-- there is one for each
module _ (m : RuledMap) (cell : ℕ) (inside : cell < length m.mapping.plan.holds) where
  pub has_rule : cell < length m.rules
  has_rule = omega (arith, inside, m.ruled.each, length-map m.mapping.plan.holds (λ (h : Hold). h.width))

  pub rule_in : (rule : Rule) → rule ≡ get_or m.rules cell rule → IsRuleOf (layout_in m) m.extents cell (get_or (widths_in m) cell 0) rule
  rule_in rule read = subst (IsRuleOf (layout_in m) m.extents cell (get_or (widths_in m) cell 0)) (sym read) (m.ruled.places cell rule has_rule)
