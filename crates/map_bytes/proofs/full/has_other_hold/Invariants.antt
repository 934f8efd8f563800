-- none so far is stored in another way
use Rattle.map_bytes.proofs.Imports.{◌≡◌, drop, full_holds, differ}
use Rattle.map_bytes.proofs.full.has_other_hold.Given as goal

abbrev pub invariant-loop-cell : goal.invariant-loop-cell
invariant-loop-cell g l =
    differ (drop l.cell (g.M.Mapping.hold_list l.mapping)) (drop l.cell (full_holds (g.M.Mapping.cell_list l.mapping)))
    ≡ differ (g.M.Mapping.hold_list l.mapping) (full_holds (g.M.Mapping.cell_list l.mapping))
