use Rattle.map_aosoa.proofs.Imports.{ℕ, List, [], ◌∷◌, map, slice_index, sym, subst, arith, widths_of, full_holds, IsLocated, Hold, Piece, aosoa, begins_fit}
use Rattle.map_aosoa.proofs.aosoa.AosoaMapping.locate.Goals as goal

pub pieces-requires : goal.pieces-requires
pieces-requires c =
    let m = c.args.self.now in
    let rule = c.rule.result in
    record {
      fits = begins_fit (aosoa m.lanes m.slots (widths_of m.cells.items)) c.args.slot c.args.cell _ c.args.slot (rule ∷ [])
          (c.rule.ensures.places c.args.slot c.requires.slot_in) 0 rule (omega arith);
    }

pub returns : goal.returns
returns c =
    let m = c.args.self.now in
    let width : ℕ = slice_index (map (λ (h : Hold). h.width) (full_holds m.cells.items)) c.args.cell in
    subst (λ (pieces : List Piece). IsLocated (aosoa m.lanes m.slots (widths_of m.cells.items)) c.args.slot c.args.cell width pieces)
    (sym c.pieces.ensures) (c.rule.ensures.places c.args.slot c.requires.slot_in)
