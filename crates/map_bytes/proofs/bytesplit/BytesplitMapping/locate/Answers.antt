use Rattle.map_bytes.proofs.Imports.{◌≡◌, ℕ, ◌+◌, ◌*◌, ◌/◌, ◌%◌, ◌<◌, List, ◌++◌, length, slice_index, sym, ap, ◌∙◌, subst, arith, length-append, Owner, IsLocated, bytesplit, widths_of, widths_full, widths_whole, widths_narrow, length-widths, width_read, Cell, Hold, Piece, common_steps}
use Rattle.map_bytes.proofs.Inner.{byte_one, byte_more}
use Rattle.map_bytes.proofs.bytesplit.BytesplitMapping.locate.Goals as goal

pub join_pieces-requires : goal.join_pieces-requires
join_pieces-requires g c = grind (arith, common_steps, slice_index, width_read, length-widths, widths_narrow, byte_one)

pub loop-byte-preserved : goal.loop-byte-preserved
loop-byte-preserved g c =
    let m = c.args.self.now in
    let cells : List Cell = m.cells.items in
    let layout : List (List Owner) = g.M.Mapping.layout m.inner in
    let holds : List Hold = g.M.Mapping.hold_list m.inner in
    let next : List Piece = c.locate.result.items in
    let first : ℕ = c.first_byte-first.result in
    let byte : ℕ = c.loop-byte.byte in
    let width : c.width.result ≡ slice_index (widths_of cells) c.args.cell =
    width_read cells c.args.cell c.index.result.now c.width.result c.requires.cell_in c.index.ensures c.width.ensures in
    let inside : c.args.cell < length cells = c.requires.cell_in in
    let low : byte < slice_index (widths_of cells) c.args.cell / 8 = omega (arith, c.loop-byte-test.true) in
    let begin = c.first_byte-first.ensures.first in
    let one : length next ≡ 1 = byte_one layout cells holds m.full c.args.slot c.args.cell byte first inside low begin next c.locate.ensures in
    let more = byte_more layout cells holds m.full c.args.slot c.args.cell byte first inside low begin next c.locate.ensures c.loop-byte.pieces.items c.loop-byte.invariant.0 in
    let so_far : length c.loop-byte.pieces.items ≡ byte = c.loop-byte.invariant.1 in
    let both : length (c.loop-byte.pieces.items ++ next) ≡ length c.loop-byte.pieces.items + length next = length-append c.loop-byte.pieces.items next in
    let size : length (c.loop-byte.pieces.items ++ next) ≡ byte + 1 = omega arith in (
      subst (λ (ps : List Piece). IsLocated (bytesplit (widths_of cells) layout) c.args.slot c.args.cell (8 * (byte + 1)) ps) (sym c.join_pieces.ensures) more,
      ap (λ (ps : List Piece). length ps) c.join_pieces.ensures ∙ size,
    )

pub returns : goal.returns
returns g c =
    let m = c.args.self.now in
    let cells : List Cell = m.cells.items in
    let layout : List (List Owner) = g.M.Mapping.layout m.inner in
    let pieces : List Piece = c.loop-byte.pieces.items in
    let width : c.width.result ≡ slice_index (widths_of cells) c.args.cell =
    width_read cells c.args.cell c.index.result.now c.width.result c.requires.cell_in c.index.ensures c.width.ensures in
    let size : length (widths_of cells) ≡ length cells = length-widths cells in
    let inside : c.args.cell < length cells = c.requires.cell_in in
    let whole : slice_index (widths_of cells) c.args.cell % 8 ≡ 0 = widths_whole cells c.args.cell 0 (omega arith) in
    let all : 8 * c.loop-byte.byte ≡ slice_index (widths_of cells) c.args.cell = omega (arith, c.loop-byte-test.false, c.loop-byte.auto.byte-end) in
    subst (λ (ws : List ℕ). IsLocated (bytesplit (widths_of cells) layout) c.args.slot c.args.cell (slice_index ws c.args.cell) pieces) (sym (widths_full cells))
    (subst (λ (w : ℕ). IsLocated (bytesplit (widths_of cells) layout) c.args.slot c.args.cell w pieces) all c.loop-byte.invariant.0)
