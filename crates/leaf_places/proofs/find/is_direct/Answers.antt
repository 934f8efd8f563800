use Rattle.leaf_places.proofs.Imports.{get_or_from_slice_get, Truth, arith}
use Rattle.leaf_places.proofs.Placing.{cell_in, hold_of}
use Rattle.leaf_places.proofs.find.is_direct.Goals as goal

pub hold-stored-requires : goal.hold-stored-requires
hold-stored-requires c = cell_in c.args.view.now c.args.leaf _ c.map.ensures.cells c.requires

pub returns-then-not-is_counted : goal.returns-then-not-is_counted
returns-then-not-is_counted c =
    let hold = hold_of c.args.view.now c.args.leaf c.hold-stored.result _ c.map.ensures.holds c.hold-stored.ensures in
    let kind = get_or_from_slice_get _ c.args.leaf c.leaf_type.result Truth c.leaf_type.ensures in record { yes = λ same. grind arith; no = λ direct. grind arith }
