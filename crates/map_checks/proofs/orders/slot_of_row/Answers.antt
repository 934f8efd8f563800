use Rattle.map_checks.proofs.Imports.{◌∙◌, sym, ap, Order, slot_at, slot_at_by_rows}
use Rattle.map_checks.proofs.orders.slot_of_row.Goals as goal

pub returns-in-Row-clause-slot : goal.returns-in-Row-clause-slot
returns-in-Row-clause-slot c =
    sym (ap (λ (order : Order). slot_at order c.args.extents.now c.args.row) c.in-Row.is
    ∙ slot_at_by_rows c.args.extents.now c.args.row c.requires.row_in)
