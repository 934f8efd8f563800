-- the pieces that are left spell the bits that are left, and the bits before them are shown
use Rattle.map_any.proofs.Lemmas.{◌≡◌, ◌-◌, ◌≤◌, drop, map, flat_map, range_with_len, Bit, owners_in, IsFilled, ShowBelow, layout_in, width_in}
use Rattle.map_any.proofs.any.AnyMap.show_cell.Given as goal

abbrev pub invariant-loop-piece : goal.invariant-loop-piece
invariant-loop-piece l = record {
  fits : l.low ≤ width_in l.self l.leaf;
  left : flat_map (owners_in (layout_in l.self)) (drop l.piece-index l.piece-items)
      ≡ map (Bit l.row l.leaf) (range_with_len l.low (width_in l.self l.leaf - l.low));
  filled : IsFilled (layout_in l.self) l.blob l.initial.owners l.owners;
  shown : ShowBelow (layout_in l.self) l.blob l.row l.leaf l.low l.owners;
}
