use Rattle.advisor.proofs.Lemmas.{rules, ◌≡◌, ◌<◌, ◌++◌, ◌∷◌, [], ℕ, List, Option, Some, None, length, map, take, sym, ap, ◌∙◌, arith, if◌then◌else◌, take_more, map_push, length-map, Term, Named, term_of, Candidate, terms_in, term_at, shown}
use Rattle.advisor.proofs.choice.marked_costs.Goals as goal

pub loop-at-preserved : goal.loop-at-preserved
loop-at-preserved c = λ suit price so.
    (let pool = c.args.pool.now in
    let at = c.loop-at.at in
    let small : at < length pool = omega arith in
    let terms = terms_in pool in
    let show = λ (term : Term). if suit term then Some (price term) else None in
    let inside : at < length terms = omega (arith, small, length-map pool (λ (c : Candidate). term_of c.expr)) in
    let item : c.then_some.result ≡ (if suit (term_at terms at) then Some (price (term_at terms at)) else None) =
    c.then_some.ensures ∙ shown suit price pool c.args.marks.now so at c.index-pool-at.result small in
    c.in_ok-push.ensures.ok
    ∙ ap (λ (costs : List (Option ℕ)). costs ++ c.then_some.result ∷ []) (c.loop-at.invariant suit price so)
    ∙ ap (λ (cost : Option ℕ). map show (take at terms) ++ cost ∷ []) item
    ∙ sym (ap (map show) (take_more terms at (Named []) inside) ∙ map_push show (take at terms) (term_at terms at)))

pub returns : goal.returns
returns c = λ suit price so.
    (c.loop-at.invariant suit price so
    ∙ ap (λ (n : ℕ). map (λ term. if suit term then Some (price term) else None) (take n (terms_in c.args.pool.now))) (search rules))
