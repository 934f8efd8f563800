use Rattle.subviews.proofs.Imports.{arith, ◌≡◌, Some, subst, slice_get, cases_eq, slice_get-get_or, get_or_from_slice_get, Truth, kinds_of, Fields, leaf_type_of, leaf_types_of}
use Rattle.subviews.proofs.limits.are_near.Goals as goal

pub loop-term-preserved : goal.loop-term-preserved
loop-term-preserved c = λ place other low.
    let view = c.args.view.now in
    let terms = c.args.terms.now in
    let term = c.term-item.result in
    let k = c.loop-term.term-index in
    let kind = c.leaf_type.result in
    let entry : slice_get (leaf_types_of view) term.leaf ≡ Some kind = subst (λ (f : Fields). slice_get (kinds_of f) term.leaf ≡ Some kind) c.schema-schema.ensures.value c.leaf_type.ensures in
    let kind_is : leaf_type_of view term.leaf ≡ kind = get_or_from_slice_get (leaf_types_of view) term.leaf kind Truth entry in
    grind (arith, get_or_from_slice_get, slice_get-get_or, cases_eq)
