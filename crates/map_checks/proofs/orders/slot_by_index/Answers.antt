use Rattle.map_checks.proofs.Imports.{◌≡◌, ◌∙◌, ℕ, List, [], sym, ap, get_or_from_slice_get, indices, index_at, slot_at, slot_of, slot_at_below, arith}
use Rattle.map_checks.proofs.orders.slot_by_index.Goals as goal

pub returns : goal.returns
returns c =
    let index : index_at c.args.extents.now c.args.row ≡ c.index_of.result.items =
    get_or_from_slice_get (indices c.args.extents.now) c.args.row c.index_of.result.items [] c.index_of.ensures.entry in
    let is : c.slot_of_index.result ≡ slot_at c.args.order c.args.extents.now c.args.row =
    c.slot_of_index.ensures ∙ ap (λ (i : List ℕ). slot_of c.args.order c.args.extents.now i) (c.as_slice.ensures.value ∙ sym index) in
    grind (arith, slot_at_below)
