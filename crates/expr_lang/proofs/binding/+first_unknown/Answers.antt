use Rattle.expr_lang.proofs.Imports.{◌∙◌, ap, sym, slice_get, option_or, paths_of, schema_fields, Expr, term_of, unknowns, told}
use Rattle.expr_lang.proofs.Unknown.{first_or, smaller_left}
use Rattle.expr_lang.proofs.binding.+first_unknown.Goals as goal

pub loop-node-preserved : goal.loop-node-preserved
loop-node-preserved t c =
    let unknown = λ (e : Expr). unknowns (paths_of (schema_fields c.args.schema.now)) c.args.rank (term_of e) in
    let left = unknown c.in-Binary.left.value in
    let right = unknown c.in-Binary.right.value in
    let all = ap (λ (e : Expr). option_or (slice_get (unknown e) 0) (told c.loop-node.found)) (sym c.in-Binary.is) ∙ c.loop-node.invariant.same in
    record {
      no_deeper = smaller_left _ _ _ _ _ c.loop-node.node.now c.deref-node-in-Binary.result.now _ c.in-Binary.is c.deref-node-in-Binary.ensures c.loop-node.invariant.no_deeper;
      same = ap (λ (e : Expr). option_or (slice_get (unknown e) 0) (told c.earlier-found.result)) c.deref-node-in-Binary.ensures
          ∙ ap (λ o. option_or (slice_get left 0) o) (c.earlier-found.ensures ∙ ap (λ o. option_or o (told c.loop-node.found)) (c.first_unknown.ensures ∙ ap (λ (e : Expr). slice_get (unknown e) 0) c.deref.ensures))
          ∙ sym (first_or left right (told c.loop-node.found)) ∙ all;
    }
