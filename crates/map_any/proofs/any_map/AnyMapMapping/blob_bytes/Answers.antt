use Rattle.map_any.proofs.Lemmas.{◌*◌, ◌∙◌, ℕ, List, get_or, ap, schema_fields, term_of, layout_by, bytes_at}
use Rattle.map_any.proofs.any_map.AnyMapMapping.blob_bytes.Goals as goal

pub returns : goal.returns
returns c =
    let m = c.args.self.now in
    ap (λ (ns : List ℕ). 8 * get_or ns c.args.blob 0) c.as_slice.ensures
    ∙ bytes_at (layout_by (term_of m.expr) m.extents (schema_fields m.schema)) m.lengths c.args.blob 0 m.sized c.requires
