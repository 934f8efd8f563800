use Rattle.row_updates.proofs.Lemmas.{◌≡◌, ◌∙◌, neg_ℤ, Some, sym, ap, subst, unsigned_abs, slice_get, get_or_from_slice_get, Truth, kinds_of, is_signed, Fields, leaf_type_of, leaf_types_of, arith, near_by_type, near_by_test}
use Rattle.row_updates.proofs.runs.leaf_run.Goals as goal

pub returns-then-is_within-clause-near : goal.returns-then-is_within-clause-near
returns-then-is_within-clause-near g c = λ all.
    let view = c.args.view.now in
    let leaf = c.args.leaf in
    let kind = c.leaf_type-kind.result in
    let entry : slice_get (leaf_types_of view) leaf ≡ Some kind = subst (λ (f : Fields). slice_get (kinds_of f) leaf ≡ Some kind) c.schema.ensures.value c.leaf_type-kind.ensures in
    let kind_is : leaf_type_of view leaf ≡ kind = get_or_from_slice_get (leaf_types_of view) leaf kind Truth entry in
    grind (arith, near_by_type, unsigned_abs)

pub returns-else-is_within-clause-near : goal.returns-else-is_within-clause-near
returns-else-is_within-clause-near g c = λ all.
    let view = c.args.view.now in
    let leaf = c.args.leaf in
    let limit = c.args.limit in
    let values = c.read_run.new.values in
    let kind = c.leaf_type-kind.result in
    let entry : slice_get (leaf_types_of view) leaf ≡ Some kind = subst (λ (f : Fields). slice_get (kinds_of f) leaf ≡ Some kind) c.schema.ensures.value c.leaf_type-kind.ensures in
    let kind_is : leaf_type_of view leaf ≡ kind = get_or_from_slice_get (leaf_types_of view) leaf kind Truth entry in
    let signed = c.signed.ensures ∙ ap is_signed (sym kind_is) in grind (arith, near_by_test, neg_ℤ)
