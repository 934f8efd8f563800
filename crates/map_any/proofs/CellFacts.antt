-- What a rule says of a cell in a row, and a plan of each of its cells.
use Rattle.map_any.proofs.Imports.{◌≡◌, ℕ, ◌^◌, ◌<◌, List, All, map, length, get_or, slice_index, sym, subst, arith, indices, slot_at, Fields, Owner, IsLocated, Cell, Hold, begins_fit, begin_in, pieces_in, PieceRule, Term, layout_of, IsPlanOf, IsRuleOf, Plan, Rule, cell_rules}

-- the pieces of a rule in the slot of a row are the places of its cell, and begin within 64 bits
module _ (layout : List (List Owner)) (extents : List ℕ) (row cell width slot : ℕ) (rule : Rule) (h : IsRuleOf layout extents cell width rule)
    (there : slot ≡ slot_at rule.order extents row) (inside : row < length (indices extents)) where
  pub rule_located : IsLocated layout row cell width (pieces_in rule.pieces.items slot)
  rule_located = subst (λ (s : ℕ). IsLocated layout row cell width (pieces_in rule.pieces.items s)) (sym there) (h.places row inside)

  pub rule_begins : All (λ (piece : PieceRule). begin_in piece slot < 2 ^ 64) rule.pieces.items
  rule_begins = begins_fit layout row cell width slot rule.pieces.items rule_located

-- a cell of a plan has a rule
module _ (term : Term) (extents : List ℕ) (fields : Fields) (cells : List Cell) (plan : Plan) (h : IsPlanOf term extents fields cells plan)
    (cell : ℕ) (inside : cell < length cells) where
  pub has_rule : cell < length plan.rules
  has_rule = omega (arith, cell_rules term extents fields cells plan h)

  pub rule_in : (rule : Rule) → rule ≡ get_or plan.rules cell rule
      → IsRuleOf (layout_of term extents fields cells) extents cell (slice_index (map (λ (x : Hold). x.width) plan.holds) cell) rule
  rule_in rule read = grind (arith, slice_index, get_or, has_rule)
