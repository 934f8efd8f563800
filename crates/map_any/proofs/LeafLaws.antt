-- What accesses to leaves go by: rules that are copied, and the short form of a rule by rows.
use Rattle.map_any.proofs.Imports.{◌≡◌, ℕ, ◌<◌, List, Bool, true, false, map, length, get_or, slice_index, sum_by, sym, ap, ◌∙◌, subst, arith, length-map, indices, LeafType, Owner, Hold, Fields, kinds_of, Cell, Term, length-leaf_cells, cell_holds, cell_rules, leaf_cells, IsPlanOf, Plan, kind_in, hold_in, IsLeafRule, AreLeafRules, AreRuled, IsRuleOf, IsRuled, IsSameRule, IsShortIn, short_in, leads, LeafRule, Rule}

-- a rule that says the same is a rule of the same cell
pub rule_same : (layout : List (List Owner)) (extents : List ℕ) (cell width : ℕ) (old new : Rule) → IsSameRule old new
    → IsRuleOf layout extents cell width old → IsRuleOf layout extents cell width new
rule_same layout extents cell width old new same h = grind (arith, sum_by)

-- what accesses to leaves go by, of the rules of a layout
pub leaves_ruled : (layout : List (List Owner)) (extents : List ℕ) (kinds : List LeafType) (holds : List Hold) (rules : List Rule) (leaves : List LeafRule)
    → IsRuled layout extents (map (λ (h : Hold). h.width) holds) rules → length holds ≡ length kinds → AreLeafRules kinds extents holds rules leaves
    → AreRuled layout extents kinds holds leaves
leaves_ruled layout extents kinds holds rules leaves ruled paired h = grind (arith, get_or, length-map, rule_same, slice_index)

-- a plan of all leaves has as many holds and rules as there are leaves
module _ (term : Term) (extents : List ℕ) (fields : Fields) (cells : List Cell) (plan : Plan) (h : IsPlanOf term extents fields cells plan)
    (all : cells ≡ leaf_cells (kinds_of fields)) where
  cell_count : length cells ≡ length (kinds_of fields)
  cell_count = ap (λ (cs : List Cell). length cs) all ∙ length-leaf_cells (kinds_of fields)

  pub whole_holds : length plan.holds ≡ length (kinds_of fields)
  whole_holds = cell_holds term extents fields cells plan h ∙ cell_count

  pub whole_rules : length plan.rules ≡ length (kinds_of fields)
  whole_rules = cell_rules term extents fields cells plan h ∙ cell_count

-- what the accesses to one leaf go by
module _ (layout : List (List Owner)) (extents : List ℕ) (kinds : List LeafType) (holds : List Hold) (leaves : List LeafRule) (k : ℕ) (leaf : LeafRule)
    (h : AreRuled layout extents kinds holds leaves) (inside : k < length kinds) (read : leaf ≡ get_or leaves k leaf) where
  pub leaf_in : k < length leaves
  leaf_in = omega (arith, h.each)

  pub leaf_placed : IsRuleOf layout extents k (slice_index (map (λ (x : Hold). x.width) holds) k) leaf.rule
  leaf_placed = grind (arith, slice_index, leaf_in)

  pub leaf_whole : IsLeafRule (kind_in kinds k) extents (hold_in holds k) leaf
  leaf_whole = subst (λ (l : LeafRule). IsLeafRule (kind_in kinds k) extents (hold_in holds k) l) (sym read) (h.whole k leaf leaf_in)

-- a short form says where its cell lies
pub leaf_short : (layout : List (List Owner)) (extents : List ℕ) (cell width : ℕ) (kind : LeafType) (hold : Hold) (leaf : LeafRule)
    → IsRuleOf layout extents cell width leaf.rule → IsLeafRule kind extents hold leaf → leads leaf.short.walk ≡ true
    → IsShortIn layout (length (indices extents)) cell width hold leaf.rule.pieces.items leaf.short
leaf_short layout extents cell width kind hold leaf placed whole some =
    short_in layout leaf.rule.order extents cell width hold leaf.rule.pieces.items leaf.short placed.few placed.places (whole.short some)

-- where there is a short form, nothing is counted
pub short_uncounted : (counted some : Bool) → (counted ≡ true → some ≡ false) → some ≡ true → counted ≡ false
short_uncounted counted some without is = grind arith
