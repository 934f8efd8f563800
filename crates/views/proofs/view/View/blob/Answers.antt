use Rattle.views.proofs.Lemmas.{◌≡◌, ◌<◌, length, get_or, sym, ap, ◌∙◌, subst, arith, get_or_read, schema_fields, term_of, layout_by, bits_of, Table, owners_of, blob_bits_of, [], kept_blob}
use Rattle.views.proofs.view.View.blob.Goals as goal

pub returns : goal.returns
returns c =
    let a = c.self.inside in
    let b = c.args.b in
    let blobs = a.blobs.items in
    let kept = c.self.invariant.1 in
    let b_in : b < length (layout_by (term_of a.expr) a.extents (schema_fields a.schema)) = subst (λ (s : Table). b < length (owners_of s)) (sym c.self.view_is) c.requires in
    let in_blobs : b < length blobs = omega (arith, kept.laid.sized.count) in
    let same : c.index.result.now ≡ get_or blobs b [] = get_or_read blobs b c.index.result.now in_blobs c.index.ensures [] in
    ap bits_of same ∙ kept_blob kept b b_in ∙ ap (λ (s : Table). blob_bits_of s b) c.self.view_is
