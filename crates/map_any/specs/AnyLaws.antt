-- The laws of a mapping that keeps how each cell of its expression is stored.
use Rattle.std.specs.Prelude.{◌≡◌}
use Rattle.map_any.specs.Imports.{ℕ, List, map, length, false, None, sym, ap, ◌∙◌, subst, length-map, indices, LeafType, Fields, kinds_of, IsLaidOut, Cell, Hold, Term, bad_number, leaf_cells_kinds, leaf_cells, layout_of, holds_of, holds_by, most_slots, not_full, IsBuiltTerm, term_laws, good_numbers, length-holds, IsPlanOf, plan_holds, plan_rules, Plan}

pub any_laws : (term : Term) (extents : List ℕ) (fields : Fields) (cells : List Cell) (holds : List Hold) → IsBuiltTerm term → bad_number term ≡ None
    → not_full term fields cells ≡ false → holds ≡ holds_of term fields cells
    → IsLaidOut (layout_of term extents fields cells) (length (indices extents)) (map (λ (h : Hold). h.width) holds)
any_laws term extents fields cells holds built numbers full held =
    subst (λ (hs : List Hold). IsLaidOut (layout_of term extents fields cells) (length (indices extents)) (map (λ (h : Hold). h.width) hs)) (sym held)
    (term_laws term extents fields cells built (good_numbers term numbers) full)

-- there are as many cells as leaves
pub length-leaf_cells : (kinds : List LeafType) → length (leaf_cells kinds) ≡ length kinds
length-leaf_cells kinds = sym (length-map (leaf_cells kinds) (λ (cell : Cell). cell.kind)) ∙ ap (λ (ks : List LeafType). length ks) (leaf_cells_kinds kinds)

pub holds_cells : (term : Term) (fields : Fields) (holds : List Hold) → holds ≡ holds_by term fields → length holds ≡ length (leaf_cells (kinds_of fields))
holds_cells term fields holds held = ap (λ (hs : List Hold). length hs) held ∙ length-holds term fields (leaf_cells (kinds_of fields))

-- a plan of an expression has a hold and a rule for each cell
module _ (term : Term) (extents : List ℕ) (fields : Fields) (cells : List Cell) (plan : Plan) (h : IsPlanOf term extents fields cells plan) where
  pub cell_holds : length plan.holds ≡ length cells
  cell_holds = plan_holds (most_slots term extents) (layout_of term extents fields cells) extents (holds_of term fields cells) plan h ∙ length-holds term fields cells

  pub cell_rules : length plan.rules ≡ length cells
  cell_rules = plan_rules (most_slots term extents) (layout_of term extents fields cells) extents (holds_of term fields cells) plan h ∙ length-holds term fields cells
