use Rattle.map_any.proofs.Lemmas.{ℕ, ◌≡◌, List, map, length, All, subst, arith, All-map, indices, slot_at, Hold, Piece, piece_in, PieceRule, pieces_of, layout_in, width_in, laid_in, not_here}
use Rattle.map_any.proofs.any.AnyMap.lies_in.Goals as goal

pub returns : goal.returns
returns c = λ no' row place bit owner.
    let m = c.args.self.now in
    let blob : ℕ = c.args.blob in
    let rule = c.rule-rule.result in
    let slot : ℕ = slot_at rule.order m.extents row in
    let of = (laid_in m).owned blob place row c.args.leaf bit owner in
    let Elsewhere : PieceRule → Type 0 = λ piece. piece.blob ≡ blob → ⊥ in
    let rules : All Elsewhere rule.pieces.items =
    subst (λ (pieces : List PieceRule). All Elsewhere pieces) c.as_slice.ensures.value (c.touches.ensures no') in
    not_here (layout_in m) (length (indices m.extents)) (map (λ (h : Hold). h.width) m.holds) (laid_in m) blob row c.args.leaf 0 (width_in m c.args.leaf)
    (pieces_of rule m.extents row) (c.rule-rule.ensures.places row of.slot_in).spelled
    (All-map (λ (piece : Piece). piece.blob ≡ blob → ⊥) (λ (piece : PieceRule). piece_in piece slot) rule.pieces.items rules)
    place bit (omega arith) (omega arith) owner
