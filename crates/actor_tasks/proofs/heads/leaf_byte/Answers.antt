use Rattle.actor_tasks.proofs.Imports.{List, map, subst, Hold, Piece, AnyTouches, IsNext}
use Rattle.actor_tasks.proofs.Touched.{head_found, found_inside}
use Rattle.actor_tasks.proofs.heads.leaf_byte.Goals as goal

pub returns : goal.returns
returns g c =
    let layout = g.M.Mapping.layout c.args.mapping.now in
    let slots = g.M.Mapping.slot_count c.args.mapping.now in
    let widths = map (λ (h : Hold). h.width) (g.M.Mapping.hold_list c.args.mapping.now) in
    let found = subst (λ (pieces : List Piece). IsNext (AnyTouches pieces) c.args.from c.next_byte.result) c.as_slice.ensures.value c.next_byte.ensures in
    record {
      head = head_found layout slots widths c.laws_of.ensures.lawful c.args.row c.args.leaf c.locate-pieces.result.items c.locate-pieces.ensures c.args.from c.next_byte.result found;
      inside = found_inside layout slots widths c.laws_of.ensures.lawful c.args.row c.args.leaf c.locate-pieces.result.items c.locate-pieces.ensures c.args.from c.next_byte.result found;
    }
