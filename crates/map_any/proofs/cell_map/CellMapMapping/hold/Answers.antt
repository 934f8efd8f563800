use Rattle.map_any.proofs.Imports.{◌∙◌, List, slice_get, sym, ap, arith, Hold, cell_holds, common_steps}
use Rattle.map_any.proofs.cell_map.CellMapMapping.hold.Goals as goal

pub hold_at-requires : goal.hold_at-requires
hold_at-requires c = grind (arith, common_steps, cell_holds)

pub returns : goal.returns
returns c = ap (λ (hs : List Hold). slice_get hs c.args.cell) (sym c.as_slice.ensures) ∙ c.hold_at.ensures
