use Rattle.map_any.proofs.Lemmas.{ℕ, sym, subst, schema_fields, kinds_of, term_of, leaf_cells_kinds, layout_by, AreReadWide, LeafRule, bytes_of, leaf_short, short_uncounted}
use Rattle.map_any.proofs.any.AnyMap.short.Goals as goal

pub returns-clause-form : goal.returns-clause-form
returns-clause-form c = λ some. leaf_short _ _ _ _ _ _ c.leaf_rule.result.now c.leaf_rule.ensures.places c.leaf_rule.ensures.whole some

pub returns-clause-sign : goal.returns-clause-sign
returns-clause-sign c = λ some. rw (leaf_cells_kinds (kinds_of (schema_fields c.args.self.now.schema))) (c.leaf_rule.ensures.whole.sign some)

pub returns-clause-uncounted : goal.returns-clause-uncounted
returns-clause-uncounted c = short_uncounted _ _ c.leaf_rule.ensures.uncounted

pub returns-clause-wide : goal.returns-clause-wide
returns-clause-wide c = λ bytes is.
    let m = c.args.self.now in
    let leaf : LeafRule = c.leaf_rule.result.now in
    subst (λ (n : ℕ). AreReadWide leaf.short n leaf.wide)
    (sym (bytes_of (layout_by (term_of m.expr) m.extents (schema_fields m.schema)) m.lengths leaf.short.blob bytes m.sized is)) c.leaf_rule.ensures.wide
