use Rattle.command_checks.proofs.Imports.{rules, ◌≡◌, ◌++◌, ◌∷◌, [], List, Err, true, map, ◌<◌, length, get_or, length-append, subst, sym, ap, ◌∙◌, get_or-map, length-map, map-append, All-push, MapTerm, term_of, nameless, is_nameless, mapping_of, GivesUp, Ok}
use Rattle.command_checks.proofs.Each.{each_more, each_ends}
use Rattle.command_checks.proofs.advices.all_nameless.Goals as goal

pub returns-in_err-expr-clause-whole : goal.returns-in_err-expr-clause-whole
returns-in_err-expr-clause-whole c =
    let is : c.from_residual.result ≡ Err c.in_err-expr.field-0.0 = search rules in
    let f = nameless (map mapping_of c.args.mappings.now) in
    let exprs = c.args.exprs.now in
    let i = c.loop-expr.expr-index in
    let one = c.expr-item.result in
    let small : i < length (map term_of exprs) = rw length-map c.loop-expr-test.true in
    let at : get_or (map term_of exprs) i (term_of one) ≡ term_of one = get_or-map term_of exprs i one (term_of one) c.loop-expr-test.true ∙ ap term_of (sym c.expr-item.is) in
    rw is (each_ends f (map term_of exprs) i (term_of one) (map term_of c.loop-expr.whole) c.in_err-expr.field-0.0 small c.loop-expr.invariant.whole
    (subst (λ (term : MapTerm). GivesUp (f term) c.in_err-expr.field-0.0) (sym at) c.in_err-expr.ensures.whole))

pub loop-expr-preserved : goal.loop-expr-preserved
loop-expr-preserved c =
    let f = nameless (map mapping_of c.args.mappings.now) in
    let exprs = c.args.exprs.now in
    let i = c.loop-expr.expr-index in
    let one = c.expr-item.result in
    let expr = c.in_ok-expr.expr in
    let whole = c.loop-expr.whole in
    let small : i < length (map term_of exprs) = rw length-map c.loop-expr-test.true in
    let at : get_or (map term_of exprs) i (term_of one) ≡ term_of one = get_or-map term_of exprs i one (term_of one) c.loop-expr-test.true ∙ ap term_of (sym c.expr-item.is) in
    let items : c.push.new.self ≡ whole ++ expr ∷ [] = search rules in
    record {
      whole = each_more f (map term_of exprs) i (term_of one) (map term_of whole) (term_of expr) small c.loop-expr.invariant.whole (ap f at ∙ c.in_ok-expr.ensures.whole)
          ∙ ap (λ (terms : List MapTerm). Ok terms) (sym (ap (map term_of) items ∙ map-append term_of whole (expr ∷ [])));
      nameless = rw items (All-push (λ e. is_nameless (term_of e) ≡ true) whole expr c.loop-expr.invariant.nameless c.in_ok-expr.ensures.nameless);
      long = rw items (simp (length-append, c.loop-expr.invariant.long));
    }
