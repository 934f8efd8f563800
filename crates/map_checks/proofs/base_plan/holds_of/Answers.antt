use Rattle.map_checks.proofs.Imports.{◌≡◌, ◌<◌, List, length, get_or, take_more, get_or_from_slice_get, slice_get_within, Hold, arith}
use Rattle.map_checks.proofs.base_plan.holds_of.Goals as goal

pub loop-cell-preserved : goal.loop-cell-preserved
loop-cell-preserved g c =
    let all : List Hold = g.M.Mapping.hold_list c.args.mapping.now in
    let hold : Hold = c.hold.result in
    let inside : c.loop-cell.cell < length all = slice_get_within all c.loop-cell.cell hold c.hold.ensures in
    let here : get_or all c.loop-cell.cell hold ≡ hold = get_or_from_slice_get all c.loop-cell.cell hold hold c.hold.ensures in
    grind (arith, take_more)
