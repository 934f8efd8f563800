-- Rules for cells: one more, and by rows.
use Rattle.map_checks.proofs.Imports.{◌≡◌, ℕ, ◌+◌, ◌%◌, ◌^◌, ◌<◌, ◌≤◌, All, List, length, sum_by, sym, ap, ◌∙◌, subst, arith, Order, slot_at, slot_count, row_at, slot_at_below, Owner, in_rows, IsLocated, pieces_in, AreRulesOf, PieceRule, row_located, length-in_rows, IsRuleOf, Rule}

-- rules by slots are rules by rows
pub rule_by_rows : (order : Order) (extents : List ℕ) (layout : List (List Owner)) (slots cell width : ℕ) (pieces : List PieceRule) (rule : Rule)
    → slots ≡ slot_count order extents → slot_count order extents ≤ 2 ^ 24 → rule.order ≡ order → rule.pieces.items ≡ pieces
    → All (λ piece. piece.blob < length layout) pieces → sum_by (λ (piece : PieceRule). piece.bits) pieces ≡ width
    → All (λ piece. piece.base + piece.bits < 2 ^ 64) pieces → All (λ piece. 0 < piece.bits) pieces → (width % 8 ≡ 0 → All (λ piece. piece.bits % 8 ≡ 0) pieces)
    → AreRulesOf layout slots cell width pieces → IsRuleOf (in_rows (row_at order extents) layout) extents cell width rule
rule_by_rows order extents layout slots cell width pieces rule counted few order_is pieces_are blobs bits bounds some whole h = record {
  few = subst (λ (o : Order). slot_count o extents ≤ 2 ^ 24) (sym order_is) few;
  blobs =
      let size : length (in_rows (row_at order extents) layout) ≡ length layout = length-in_rows (row_at order extents) layout in grind arith;
  bits = ap (λ (ps : List PieceRule). sum_by (λ (p : PieceRule). p.bits) ps) pieces_are ∙ bits;
  bounds = subst (λ (ps : List PieceRule). All (λ (p : PieceRule). p.base + p.bits < 2 ^ 64) ps) (sym pieces_are) bounds;
  some = subst (λ (ps : List PieceRule). All (λ (p : PieceRule). 0 < p.bits) ps) (sym pieces_are) some;
  whole = λ e. subst (λ (ps : List PieceRule). All (λ (p : PieceRule). p.bits % 8 ≡ 0) ps) (sym pieces_are) (whole e);
  places = λ row inside.
      let below : slot_at order extents row < slot_count order extents = slot_at_below order extents row inside in
      let here = row_located order extents layout row cell width (pieces_in pieces (slot_at order extents row)) inside
      (h (slot_at order extents row) (omega arith)) in
      let Located : List PieceRule → Order → Type 0 =
      λ ps o. IsLocated (in_rows (row_at order extents) layout) row cell width (pieces_in ps (slot_at o extents row)) in
      subst (λ (o : Order). Located rule.pieces.items o) (sym order_is) (subst (λ (ps : List PieceRule). Located ps order) (sym pieces_are) here);
}
