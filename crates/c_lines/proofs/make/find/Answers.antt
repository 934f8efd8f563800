use Rattle.c_lines.proofs.Lemmas.{rules, [], Err, term_of, same_text, schema_fields, nameless, shaped, Gives, named_of, new_of, goes_ok, ne_false, tells_refused, tells_test, shape_refused}
use Rattle.c_lines.proofs.make.find.Goals as goal

pub returns-in_err-shape-clause-named : goal.returns-in_err-shape-clause-named
returns-in_err-shape-clause-named c =
    let refusal = c.in_err-shape.field-0.0 in
    let asked = c.args.asked.now in
    let mapping : Gives term_of c.nameless-2.result (nameless [] (term_of asked.new.expr)) = search rules in
    let goes = goes_ok term_of c.nameless-2.result (nameless [] (term_of asked.new.expr)) c.in_ok-expr.expr c.in_ok-expr.ensures mapping in
    let same = same_text asked.new.schema asked.record.name (ne_false c.ne.result _ c.ne.ensures c.if-ne.false) in
    tells_refused (named_of asked.record) _ refusal c.from_residual-in_err-shape.result (search rules)
    (shape_refused asked.record.name (schema_fields asked.record.schema) (new_of asked.new) (term_of c.in_ok-expr.expr) refusal same goes
    (tells_test _ c.shaped.result (shaped asked.new.words) (Err refusal) c.in_err-shape.ensures (rw c.as_slice.ensures at c.shaped.ensures.shaped)))
