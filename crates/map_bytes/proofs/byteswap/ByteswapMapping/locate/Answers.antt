use Rattle.map_bytes.proofs.Imports.{ℕ, List, map, slice_index, sym, subst, Owner, IsLocated, byteswap, widths_of, full_holds, widths_full, widths_whole, Hold, Piece, swapped, swap_located, common_steps, arith}
use Rattle.map_bytes.proofs.Inner.{inner_located, inner_whole, inner_few, cell_in}
use Rattle.map_bytes.proofs.byteswap.ByteswapMapping.locate.Goals as goal

pub swap_pieces-requires-clause-whole : goal.swap_pieces-requires-clause-whole
swap_pieces-requires-clause-whole g c = grind (arith, common_steps, inner_whole)

pub swap_pieces-requires-clause-few : goal.swap_pieces-requires-clause-few
swap_pieces-requires-clause-few g c = grind (arith, common_steps, inner_few)

pub returns : goal.returns
returns g c =
    let m = c.args.self.now in
    let layout : List (List Owner) = g.M.Mapping.layout m.inner in
    let holds : List Hold = g.M.Mapping.hold_list m.inner in
    let pieces : List Piece = c.locate.result.items in
    let ws : List ℕ = widths_of m.cells.items in
    let inside = cell_in layout c.args.slot c.args.cell m.cells.items holds pieces m.full c.requires.cell_in c.locate.ensures in
    let there = inner_located layout c.args.slot c.args.cell m.cells.items holds pieces m.full c.requires.cell_in c.locate.ensures in
    let back = swap_located layout ws c.args.slot c.args.cell (widths_whole m.cells.items c.args.cell 0 inside) pieces there in
    subst (λ (ps : List Piece). IsLocated (byteswap ws layout) c.args.slot c.args.cell (slice_index (map (λ (h : Hold). h.width) (full_holds m.cells.items)) c.args.cell) ps)
    (sym c.swap_pieces.ensures.bytes)
    (subst (λ (vs : List ℕ). IsLocated (byteswap ws layout) c.args.slot c.args.cell (slice_index vs c.args.cell) (swapped pieces)) (sym (widths_full m.cells.items)) back)
