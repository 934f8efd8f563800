use Rattle.advisor.proofs.Lemmas.{Option, sym, ap, ◌∙◌, option_map, Term, term_of, Best, found, none_found, chosen_is, same_advice}
use Rattle.advisor.proofs.choice.advice_of.Goals as goal
use Rattle.advisor.proofs.choice.advice_of.Goals.{in-Some+in_ok-best_of-in-Some, in-None}

pub returns : goal.returns
returns c = λ suit price so.
    (let pool = c.args.pool.now in
    let marks = c.args.marks.now in
    let tell = λ (best : Option Best). option_map (λ best. (best.cost, term_of best.expr)) best in
    let show = λ (term : Option Term). option_map (λ term. (price term, term)) term in
    same_advice (c.in_ok-costs.ensures suit price so)
    (elim c.match-cheapest.branch [
      | in-Some+in_ok-best_of-in-Some w ↦
          ap tell w.best-is
          ∙ chosen_is suit price pool marks so w.in-Some.at w.index-pool-at.result _ _ w.in-Some.ensures.inside w.index-pool-at.is w.in_ok-best_of-in-Some.ensures.cost w.in_ok-best_of-in-Some.ensures.term
          ∙ sym (ap show (found suit price pool marks so w.in-Some.at w.in-Some.ensures))
      | in-None w ↦ ap tell w.best-is ∙ sym (ap show (none_found suit price pool marks so w.in-None.ensures))
    ]))
