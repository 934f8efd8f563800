use Rattle.map_bytes.proofs.Imports.{◌≡◌, ℕ, List, true, false, sym, ◌∙◌, rules, get_or_from_slice_get, slice_get_within, full_holds, Cell, Hold, same_hold, full_at, full_within, differ_more, differ_here}
use Rattle.map_bytes.proofs.full.has_other_hold.Goals as goal

pub returns-then-not-is_same_hold : goal.returns-then-not-is_same_hold
returns-then-not-is_same_hold g c =
    let holds : List Hold = g.M.Mapping.hold_list c.args.mapping.now in
    let cells : List Cell = g.M.Mapping.cell_list c.args.mapping.now in
    let i : ℕ = c.loop-cell.cell in
    let same : same_hold c.hold.result c.of.result ≡ false = let t = c.if-not-is_same_hold.true in let e = c.is_same_hold.ensures in search rules in
    sym (differ_here holds (full_holds cells) i c.hold.result c.of.result (slice_get_within holds i c.hold.result c.hold.ensures) (full_within cells i c.kind.result c.kind.ensures)
    (get_or_from_slice_get holds i c.hold.result c.hold.result c.hold.ensures) (full_at cells i c.kind.result c.of.result c.kind.ensures ∙ sym c.of.ensures)
    same c.loop-cell.invariant)

pub loop-cell-preserved : goal.loop-cell-preserved
loop-cell-preserved g c =
    let holds : List Hold = g.M.Mapping.hold_list c.args.mapping.now in
    let cells : List Cell = g.M.Mapping.cell_list c.args.mapping.now in
    let i : ℕ = c.loop-cell.cell in
    let same : same_hold c.hold.result c.of.result ≡ true = let t = c.if-not-is_same_hold.false in let e = c.is_same_hold.ensures in search rules in
    differ_more holds (full_holds cells) i c.hold.result c.of.result (slice_get_within holds i c.hold.result c.hold.ensures) (full_within cells i c.kind.result c.kind.ensures)
    (get_or_from_slice_get holds i c.hold.result c.hold.result c.hold.ensures) (full_at cells i c.kind.result c.of.result c.kind.ensures ∙ sym c.of.ensures)
    same c.loop-cell.invariant
